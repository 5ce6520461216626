-- Laws of records by their numbers: a record and its hash, a hash and its link, and the links of a record's children.
use Rattle.std.specs.Prelude.{Option, Some, None}
use Prim.Native.Nat.{ℕ, zero, suc, ◌+◌, ◌-◌, ◌*◌, ◌≤◌, ◌<◌}
use mathlib.Core.Path.{◌≡◌, refl, sym, ap, ◌∙◌}
use mathlib.Core.Bool.{Bool, true, false, cond}
use mathlib.Core.Logic.{◌⊎◌, inl, inr, ⊎_elim}
use mathlib.Core.List.{List, [], ◌∷◌}
use native.Mathlib.Omega.{arith}
use native.Mathlib.Numerals.{add-one}
use lib.ListN.{length, get_or, drop}
use lib.Seq.{drop-cons}
use lib.Dec.{eqb}
use Rattle.wire.specs.Wire.{span}
use Rattle.lists.specs.Lists.{index_of}
use Rattle.lists.specs.Among.{Among, here, there, Distinct}
use Rattle.lists.proofs.Index.{among_index, index_among, distinct_index, index_is, index_none}
use Rattle.sizes.specs.Sizes.{nodes_size}
use Rattle.placing.specs.Placing.{Links}
use Rattle.placing.specs.Circles.{ChildLink, first, second}
use Rattle.nodes.specs.Records.{NodeRecord, children, children_of, hashes}
use Rattle.nodes.specs.Links.{link_to, link_of, first_link, second_link, links, links_of}
use Rattle.nodes.specs.Starts.{nth_record}

-- record i
abbrev pub at : List NodeRecord → ℕ → NodeRecord
at rs i = nth_record rs i

abbrev pub hash_at : List NodeRecord → ℕ → List ℕ
hash_at rs i = (at rs i).hash

abbrev pub children_at : List NodeRecord → ℕ → List (List ℕ)
children_at rs i = children (at rs i)

pub hashes_length : (rs : List NodeRecord) → length (hashes rs) ≡ length rs
unfolding hashes
hashes_length [] = refl
hashes_length (r ∷ rs) = ap suc (hashes_length rs)

pub hashes_at_lem : (rs : List NodeRecord) (i : ℕ) → get_or (hashes rs) i [] ≡ hash_at rs i
unfolding hashes
hashes_at_lem [] i = refl
hashes_at_lem (r ∷ rs) zero = refl
hashes_at_lem (r ∷ rs) (suc i) = hashes_at_lem rs i

-- the records from record i on, by the first of them
pub record_next : (rs : List NodeRecord) (i : ℕ) → i < length rs → drop i rs ≡ at rs i ∷ drop (i + 1) rs
record_next rs i l = rw add-one (drop-cons rs i (record { hash = []; payload = [] }) l)

-- a record and its number
pub number_of : {rs : List NodeRecord} {r : NodeRecord} → Among r rs → (i : ℕ) × (i < length rs) × (at rs i ≡ r)
number_of = among_index (record { hash = []; payload = [] })

pub record_at_lem : (rs : List NodeRecord) (i : ℕ) → i < length rs → Among (at rs i) rs
record_at_lem = index_among (record { hash = []; payload = [] })

-- a hash's link is no more than the number of records, and says which record has it
module _ (rs : List NodeRecord) (h : List ℕ) where
  pub link_small : link_of rs h ≤ length rs
  unfolding link_of
  link_small = told (index_of h 0 (hashes rs)) refl
    where
      told : (f : Option ℕ) → index_of h 0 (hashes rs) ≡ f → link_to f ≤ length rs
      told (Some j) e = omega (arith, (index_is h 0 (hashes rs) j e).1, hashes_length rs)
      told None e = omega arith

  pub link_hash : (j : ℕ) → link_of rs h ≡ j + 1 → (j < length rs) × (hash_at rs j ≡ h)
  unfolding link_of
  link_hash j = told (index_of h 0 (hashes rs)) refl
    where
      told : (f : Option ℕ) → index_of h 0 (hashes rs) ≡ f → link_to f ≡ j + 1 → (j < length rs) × (hash_at rs j ≡ h)
      told (Some k) q e =
          let (l, m, g) = index_is h 0 (hashes rs) k q in
          let z : k - 0 ≡ j = omega arith in
          (omega (arith, hashes_length rs), sym (hashes_at_lem rs j) ∙ rw (← z) g)
      told None q e = absurd (omega arith)

  pub hash_link : Among h (hashes rs) → (j : ℕ) × (j < length rs) × (hash_at rs j ≡ h) × (link_of rs h ≡ j + 1)
  unfolding link_of
  hash_link a = told (index_of h 0 (hashes rs)) refl
    where
      told : (f : Option ℕ) → index_of h 0 (hashes rs) ≡ f →
          (j : ℕ) × (j < length rs) × (hash_at rs j ≡ h) × (link_to f ≡ j + 1)
      told (Some k) q = let (l, e) = link_hash k (ap link_to q) in (k, l, e, refl)
      told None q = absurd (index_none h 0 (hashes rs) q a)

-- the links of record i
module _ (all : List NodeRecord) where
  pub links_length : (rs : List NodeRecord) → length (links all rs) ≡ 2 * length rs
  unfolding links
  links_length [] = refl
  links_length (r ∷ rs) = omega (arith, links_length rs)

  pub links_first : (rs : List NodeRecord) (i : ℕ) → i < length rs → get_or (links all rs) (2 * i) 0 ≡ first_link all (children_at rs i)
  unfolding links
  links_first [] i l = absurd (omega arith)
  links_first (r ∷ rs) zero l = refl
  links_first (r ∷ rs) (suc i) l =
      let e : 2 * suc i ≡ suc (suc (2 * i)) = omega arith in rw e (links_first rs i (omega arith))

  pub links_second : (rs : List NodeRecord) (i : ℕ) → i < length rs →
      get_or (links all rs) (2 * i + 1) 0 ≡ second_link all (children_at rs i)
  unfolding links
  links_second [] i l = absurd (omega arith)
  links_second (r ∷ rs) zero l = refl
  links_second (r ∷ rs) (suc i) l =
      let e : 2 * suc i + 1 ≡ suc (suc (2 * i + 1)) = omega arith in rw e (links_second rs i (omega arith))

  first_small : (cs : List (List ℕ)) → first_link all cs ≤ length all
  unfolding first_link
  first_small [] = omega arith
  first_small (c ∷ cs) = link_small all c

  second_small : (cs : List (List ℕ)) → second_link all cs ≤ length all
  unfolding second_link
  second_small [] = omega arith
  second_small (c ∷ []) = omega arith
  second_small (c ∷ d ∷ cs) = link_small all d

  links_small : (rs : List NodeRecord) (k : ℕ) → get_or (links all rs) k 0 ≤ length all
  unfolding links
  links_small [] k = omega arith
  links_small (r ∷ rs) zero = first_small (children r)
  links_small (r ∷ rs) (suc zero) = second_small (children r)
  links_small (r ∷ rs) (suc (suc k)) = links_small rs k

pub links_ok : (rs : List NodeRecord) → length rs ≤ nodes_size.most → Links (links_of rs) (length rs) nodes_size.most
links_ok rs h =
    record { long = omega (arith, links_length rs rs); small = λ k l. links_small rs rs k; fits = h; few = omega arith }

-- a record has no, one or two children
pub data Kids : List (List ℕ) → Type 0 where
  none : Kids []
  one : {a : List ℕ} → Kids (a ∷ [])
  two : {a b : List ℕ} → Kids (a ∷ b ∷ [])

pub kids_view : (p : List ℕ) → Kids (children_of p)
unfolding children_of
kids_view p = go (eqb (length p) 33) (eqb (length p) 65)
  where
    go : (a b : Bool) → Kids (cond a (span p 1 32 ∷ []) (cond b (span p 1 32 ∷ span p 33 32 ∷ []) []))
    go true b = one
    go false true = two
    go false false = none

-- a link of record i names a child's record
module _ (rs : List NodeRecord) where
  first_child_lem : (cs : List (List ℕ)) (j : ℕ) → first_link rs cs ≡ j + 1 → (j < length rs) × Among (hash_at rs j) cs
  unfolding first_link
  first_child_lem [] j e = absurd (omega arith)
  first_child_lem (c ∷ cs) j e = let (l, q) = link_hash rs c j e in (l, rw q here)

  second_child : (cs : List (List ℕ)) (j : ℕ) → second_link rs cs ≡ j + 1 → (j < length rs) × Among (hash_at rs j) cs
  unfolding second_link
  second_child [] j e = absurd (omega arith)
  second_child (c ∷ []) j e = absurd (omega arith)
  second_child (c ∷ d ∷ cs) j e = let (l, q) = link_hash rs d j e in (l, rw q (there here))

  pub link_child : (i j : ℕ) → i < length rs → ChildLink (links_of rs) i j →
      (j < length rs) × Among (hash_at rs j) (children_at rs i)
  link_child i j l (first e) = first_child_lem (children_at rs i) j (sym (links_first rs rs i l) ∙ e)
  link_child i j l (second e) = second_child (children_at rs i) j (sym (links_second rs rs i l) ∙ e)

  -- and a child that has a record has its link there
  among_link : {cs : List (List ℕ)} → Kids cs → {h : List ℕ} → Among h cs →
      (first_link rs cs ≡ link_of rs h) ⊎ (second_link rs cs ≡ link_of rs h)
  unfolding first_link second_link
  among_link one here = inl refl
  among_link two here = inl refl
  among_link two (there here) = inr refl
  among_link none a = elim a [ ]
  among_link one (there a) = elim a [ ]
  among_link two (there (there a)) = elim a [ ]

  pub child_link : (i : ℕ) → i < length rs → {h : List ℕ} → Among h (children_at rs i) → Among h (hashes rs) →
      (j : ℕ) × (j < length rs) × (hash_at rs j ≡ h) × ChildLink (links_of rs) i j
  child_link i l {h} a b =
      let (j, m, e, q) = hash_link rs h b in (
        j,
        m,
        e,
        ⊎_elim (λ f. first (links_first rs rs i l ∙ f ∙ q)) (λ f. second (links_second rs rs i l ∙ f ∙ q))
            (among_link (kids_view _) a),
      )

-- where no two records have one hash
module _ (rs : List NodeRecord) (apart : Distinct (hashes rs)) where
  pub one_number : (i j : ℕ) → i < length rs → j < length rs → hash_at rs i ≡ hash_at rs j → i ≡ j
  one_number i j l m e =
      let q : length (hashes rs) ≡ length rs = hashes_length rs in
      distinct_index [] apart i j (omega arith) (omega arith) (hashes_at_lem rs i ∙ e ∙ sym (hashes_at_lem rs j))

  pub one_record : {r q : NodeRecord} → Among r rs → Among q rs → r.hash ≡ q.hash → r ≡ q
  one_record {r} {q} a b e =
      let (i, l, f) = number_of a in
      let (j, m, g) = number_of b in
      let z : i ≡ j = one_number i j l m (cc) in
      sym f ∙ ap (at rs) z ∙ g
