-- The two outputs that document 01 shows, and others.
use Rattle.std.specs.Prelude.{Err}
use Rattle.loader.specs.Accepted.{accepted}
use Prim.Native.Nat.{ℕ}
use mathlib.Core.Path.{◌≡◌, refl}
use mathlib.Core.List.{List, [], ◌∷◌, ◌++◌}
use Rattle.wire.specs.Wire.{ascii}
use Rattle.loader.specs.Load.{loaded}
use Rattle.text.specs.Text.{digits, newline}
use Rattle.report.specs.Report.{line, lines, refused_line, ok_line, report}

-- a bundle of one leaf, exported as `main`
pub one_leaf : (words slots : List ℕ) →
    report (loaded words (0 ∷ slots) (accepted 1 1)) (ascii "main" ∷ []) ≡
    ascii "ok nodes 1 exports 1" ++ (newline ++ (ascii "0 4 main" ++ newline))
unfolding report ok_line lines line digits
one_leaf words slots = refl

pub one_refusal : (words slots : List ℕ) (names : List (List ℕ)) →
    report (loaded words slots (Err 3)) names ≡ ascii "refused 3" ++ newline
unfolding report refused_line digits
one_refusal words slots names = refl

-- numbers of more digits
pub largest : (words : List ℕ) → report (loaded words (511 ∷ []) (accepted 512 1)) (ascii "ten bytes." ∷ []) ≡
    ascii "ok nodes 512 exports 1" ++ (newline ++ (ascii "511 10 ten bytes." ++ newline))
unfolding report ok_line lines line digits
largest words = refl

-- two exports, in manifest order
pub two_exports : (words : List ℕ) →
    report (loaded words (3 ∷ 12 ∷ []) (accepted 20 2)) (ascii "red" ∷ ascii "blue" ∷ []) ≡
    ascii "ok nodes 20 exports 2" ++ (newline ++ (ascii "3 3 red" ++ (newline ++ (ascii "12 4 blue" ++ newline))))
unfolding report ok_line lines line digits
two_exports words = refl
