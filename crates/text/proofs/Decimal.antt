-- Decimal digits: those that the library spells are those of the text, and there are few.
use Prim.Native.Nat.{ℕ, zero, suc, ◌+◌, ◌*◌, ◌-◌, ◌/◌, ◌%◌, ◌^◌, ◌≤◌, ◌<◌}
use mathlib.Core.Path.{◌≡◌, ◌∙◌}
use mathlib.Core.Bool.{Bool, true, false, cond}
use mathlib.Core.List.{List, [], ◌∷◌, ◌++◌}
use native.Mathlib.Nat.{one-le-pow}
use native.Mathlib.Omega.{arith, pow_step}
use borrow.Author.Tests.{lt-ltb, le-ltb}
use mir.Syntax.{w32}
use mir.Val.{Fits}
use lib.Dec.{ltb}
use lib.ListN.{length, length-append}
use Rattle.io.specs.Digits.{last_digits as spelled, hex_digit_ascii, IsDigitCount}
use Rattle.text.specs.Text.{digits, decimal}

-- a digit
glyph_small : (d : ℕ) → d < 10 → hex_digit_ascii d ≡ 48 + d
glyph_small d h = rw (lt-ltb d 10 h)

-- a number below ten is one digit
one_digit : (j n : ℕ) → n < 10 → spelled 10 1 n ≡ digits (suc j) n
unfolding digits
one_digit j n h =
    let m : n % 10 ≡ n = omega arith in rw (m, glyph_small n h, lt-ltb n 10 h)

-- any other has a last digit, and those of its tenth
more_digits : (j k n : ℕ) → 10 ≤ n → spelled 10 k (n / 10) ≡ digits j (n / 10) → spelled 10 (suc k) n ≡ digits (suc j) n
unfolding digits
more_digits j k n h e =
    let m : n % 10 < 10 = omega arith in rw (le-ltb n 10 h, glyph_small (n % 10) m, e)

-- the fewest digits of a tenth are one fewer
fewest_tenth : (n k : ℕ) → IsDigitCount 10 1 n (suc (suc k)) → (10 ≤ n) × IsDigitCount 10 1 (n / 10) (suc k)
fewest_tenth n k (a, b, c) =
    let p : 10 ^ suc (suc k) ≡ 10 * 10 ^ suc k = pow_step 10 (suc k) in
    let q : 10 ^ suc k ≡ 10 * 10 ^ k = pow_step 10 k in
    let o : 1 ≤ 10 ^ k = one-le-pow k 10 (omega arith) in
    let s : suc (suc k) - 1 ≡ suc k = omega arith in
    let t : suc k - 1 ≡ k = omega arith in
    let l : 10 ^ suc k ≤ n = rw s at (c (omega arith)) in
    (omega arith, (omega arith, omega arith, λ _. rw t (omega arith)))

-- with room for all digits of a number, those that are spelled are those of the text
pub digits_spelled : (j k n : ℕ) → n < 10 ^ suc j → IsDigitCount 10 1 n k → spelled 10 k n ≡ digits (suc j) n
digits_spelled j zero n h f = absurd (omega (arith, f.0))
digits_spelled j (suc zero) n h f = one_digit j n (omega (arith, f.1))
digits_spelled zero (suc (suc k)) n h f = absurd (omega (arith, (fewest_tenth n k f).0))
digits_spelled (suc j) (suc (suc k)) n h f =
    let (big, less) = fewest_tenth n k f in
    let p : 10 ^ suc (suc j) ≡ 10 * 10 ^ suc j = pow_step 10 (suc j) in
    more_digits (suc j) (suc k) n big (digits_spelled j (suc k) (n / 10) (omega arith) less)

-- the bytes that hold a number of 32 bits
pub decimal_spelled : {b : List ℕ} {n k : ℕ} → Fits w32 n → IsDigitCount 10 1 n k → b ≡ spelled 10 k n → b ≡ decimal n
decimal_spelled {b} {n} {k} h f e = e ∙ digits_spelled 9 k n (omega arith) f

-- there are at most as many digits as there is room for
pub digits_most : (j n : ℕ) → length (digits j n) ≤ j
unfolding digits
digits_most zero n = omega arith
digits_most (suc j) n = go (digits_most j (n / 10)) (ltb n 10)
  where
    go : length (digits j (n / 10)) ≤ j → (b : Bool) →
        length (cond b ((48 + n) ∷ []) (digits j (n / 10) ++ ((48 + n % 10) ∷ []))) ≤ suc j
    go h true = omega arith
    go h false = omega (arith, length-append (digits j (n / 10)) ((48 + n % 10) ∷ []))
