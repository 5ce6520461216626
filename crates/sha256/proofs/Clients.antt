-- What clients of a running hash rely on.
use Rattle.std.proofs.Common.{◌≡◌, ℕ, ◌+◌, ◌*◌, ◌/◌, ◌%◌, ◌^◌, List, [], ◌∷◌, ◌++◌, length, drop, sym, refl, ap, ◌∙◌, append_assoc, append-nil, zero-add, arith, length-append}
use mathlib.Core.List.{flatten}
use Rattle.sha256.specs.declared.Running.{Running}
use Rattle.sha256_block.specs.Fips180.{H0, zeros, padding, padded, hash, hash_all, bytes_of, sha256}
use Rattle.sha256.specs.Running.{pending, in_block, buffered, fresh, absorbed, absorbed_all, state_after, finished_hash}
use Rattle.sha256.specs.Running.{PartsJoin, FinishHashes}
use Rattle.sha256_block.proofs.Blocks.{hash_split}
use Rattle.sha256.proofs.Buffering.{buffered_split, pending_buffered, pending_length}

-- absorbing two parts one after the other is absorbing their join, from any state
pub absorbed_join : (s : Running) (xs ys : List ℕ) → length s.block ≡ 64
    → absorbed (absorbed s xs) ys ≡ absorbed s (xs ++ ys)
unfolding absorbed buffered
absorbed_join s xs ys l =
    let m : List ℕ = pending s ++ xs in
    let t : ℕ = (s.total + length xs) % 2 ^ 64 in
    let u : ℕ = (t + length ys) % 2 ^ 64 in
    let n : length m ≡ s.total % 64 + length xs
    = length-append (pending s) xs ∙ ap (λ (k : ℕ). k + length xs) (pending_length s l)
    in
    let e : u ≡ (s.total + length (xs ++ ys)) % 2 ^ 64 = omega (arith, length-append xs ys) in
    ap (λ (p : List ℕ). buffered (hash_all s.h m) (p ++ ys) u) (pending_buffered s.h m t (omega arith))
    ∙ buffered_split (length m / 64) s.h m ys (omega arith) u
    ∙ ap (λ (x : List ℕ). buffered s.h x u) (append_assoc (pending s) xs ys)
    ∙ ap (buffered s.h (pending s ++ (xs ++ ys))) e

pub absorbed_after : (xs ys : List ℕ) → absorbed (state_after xs) ys ≡ state_after (xs ++ ys)
unfolding state_after fresh in_block
absorbed_after xs ys = absorbed_join fresh xs ys refl

-- a fresh hash has absorbed nothing
pub fresh_after : fresh ≡ state_after []
unfolding state_after absorbed buffered hash fresh pending in_block
fresh_after = refl

pub parts_join : PartsJoin
unfolding absorbed_all flatten
parts_join m [] = ap state_after (sym (append-nil m))
parts_join m (p ∷ ps) =
    ap (λ (s : Running). absorbed_all s ps) (absorbed_after m p)
    ∙ parts_join (m ++ p) ps
    ∙ ap state_after (append_assoc m p (flatten ps))

after_is : (m : List ℕ) → state_after m ≡ buffered H0 m (length m % 2 ^ 64)
unfolding state_after absorbed fresh pending
after_is m = rw (zero-add (length m))

-- the length counts modulo 2 ^ 64
padding_wraps : (n : ℕ) → padding (n % 2 ^ 64) ≡ padding n
unfolding padding
padding_wraps n =
    let z : zeros (n % 2 ^ 64) ≡ zeros n = omega arith in
    let l : n % 2 ^ 64 * 8 % 2 ^ 64 ≡ n * 8 % 2 ^ 64 = omega arith in
    rw (z, l)

pub finished_after : FinishHashes
unfolding finished_hash sha256 padded buffered
finished_after m =
    let n : ℕ = length m % 2 ^ 64 in
    let v : List ℕ = hash_all H0 m in
    ap finished_hash (after_is m)
    ∙ ap (λ (x : List ℕ). bytes_of (hash_all v (x ++ padding n))) (pending_buffered H0 m n (omega arith))
    ∙ ap (λ (x : List ℕ). bytes_of (hash_all v (drop (length m / 64 * 64) m ++ x))) (padding_wraps (length m))
    ∙ ap bytes_of (hash_split (length m / 64) H0 m (padding (length m)) (omega arith))

-- the digest of a message in parts
pub finished_parts : (parts : List (List ℕ)) → finished_hash (absorbed_all fresh parts) ≡ sha256 (flatten parts)
finished_parts parts =
    ap (λ (s : Running). finished_hash (absorbed_all s parts)) fresh_after
    ∙ ap finished_hash (parts_join [] parts)
    ∙ finished_after (flatten parts)

pub ruleset parts = (fresh_after, absorbed_after, finished_after)
