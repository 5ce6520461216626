-- Laws of filling the links: how small a link is, and a turn of the loop that writes two words of a record.
use Prim.Native.Nat.{ℕ, zero, suc, ◌+◌, ◌*◌, ◌≤◌, ◌<◌}
use mathlib.Core.Path.{◌≡◌, refl}
use mathlib.Core.List.{List, [], ◌∷◌, ◌++◌}
use native.Mathlib.Omega.{arith}
use lib.ListN.{length, set, drop}
use Rattle.lists.proofs.Filled.{Filled, next_left, filled_on, filled_all}
use Rattle.nodes.specs.Records.{NodeRecord, children, children_of}
use Rattle.nodes.specs.Links.{first_link, second_link, links, links_of}
use Rattle.nodes.specs.Starts.{nth_record}
use Rattle.nodes.proofs.Children.{links_length}

-- the links from record k on
links_from : (all rs : List NodeRecord) (k : ℕ) → k < length rs →
    drop (2 * k) (links all rs)
    ≡ first_link all (children (nth_record rs k)) ∷ second_link all (children (nth_record rs k)) ∷ drop (2 * (k + 1)) (links all rs)
unfolding links
links_from all [] k l = absurd (omega arith)
links_from all (r ∷ rs) zero l = refl
links_from all (r ∷ rs) (suc k) l =
    let m : 2 * suc k ≡ suc (suc (2 * k)) = omega arith in
    let o : 2 * (suc k + 1) ≡ suc (suc (2 * (k + 1))) = omega arith in
    rw (m, o) (links_from all rs k (omega arith))

-- the first k of the records have their links in `out`, which was `old`
abbrev pub Linking : List NodeRecord → List ℕ → List ℕ → ℕ → Type 0
Linking rs old out k = Filled (links_of rs) old out (2 * k)

module _ (rs : List NodeRecord) (old : List ℕ) where
  module _ (out : List ℕ) (k : ℕ) (f : Linking rs old out k) where
    pub linking_all : length rs ≡ k → out ≡ links_of rs ++ drop (2 * k) old
    linking_all h = filled_all f (omega (arith, links_length rs rs))

    -- p stands for the payload of the next
    pub linking_on : {x y : ℕ} {p : List ℕ} → k < length rs → 2 * length rs ≤ length old → p ≡ (nth_record rs k).payload →
        x ≡ first_link rs (children_of p) → y ≡ second_link rs (children_of p) →
        Linking rs old (set (set out (2 * k) x) (2 * k + 1) y) (k + 1)
    linking_on {x} {y} l room ep ex ey =
        let first : drop (2 * k) (links_of rs) ≡ x ∷ y ∷ drop (2 * (k + 1)) (links_of rs) =
        rw (ex, ey, ep) (links_from rs rs k l) in
        let most : length (links_of rs) ≤ length old = omega (arith, links_length rs rs) in
        let two : 2 * (k + 1) ≡ 2 * k + 1 + 1 = omega arith in
        rw two (filled_on (filled_on f first most) (next_left (links_of rs) (2 * k) first) most)
