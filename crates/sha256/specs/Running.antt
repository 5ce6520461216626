-- A running hash: what it is after a part of the message more, and the digest that it ends with.
use Rattle.std.specs.Prelude.{◌≡◌, ℕ, ◌+◌, ◌-◌, ◌*◌, ◌/◌, ◌%◌, ◌^◌, List, [], ◌∷◌, ◌++◌, length, take, drop, replicate}
use mathlib.Core.List.{flatten}
use Rattle.sha256.specs.declared.Running.{Running}
use Rattle.sha256_block.specs.Fips180.{H0, padding, hash_all, bytes_of, sha256}

-- the bytes that are buffered: those since the last whole block
unfoldable pub pending : Running → List ℕ
pending s = take (s.total % 64) s.block

-- bytes in the first places of a block, and zeros after them
unfoldable pub in_block : List ℕ → List ℕ
in_block xs = xs ++ replicate (64 - length xs) 0

-- the whole blocks of m are hashed, and the bytes after them are buffered
unfoldable pub buffered : List ℕ → List ℕ → ℕ → Running
buffered v m total = record { h = hash_all v m; block = in_block (drop (length m / 64 * 64) m); total = total }

-- at the start
unfoldable pub fresh : Running
fresh = record { h = H0; block = in_block []; total = 0 }

-- after a part more. The count of bytes wraps at 2 ^ 64, past every message that the standard allows
unfoldable pub absorbed : Running → List ℕ → Running
absorbed s part = buffered s.h (pending s ++ part) ((s.total + length part) % 2 ^ 64)

-- after parts, one after the other
unfoldable pub absorbed_all : Running → List (List ℕ) → Running
absorbed_all s [] = s
absorbed_all s (part ∷ parts) = absorbed_all (absorbed s part) parts

-- after the message m from the start
unfoldable pub state_after : List ℕ → Running
state_after m = absorbed fresh m

-- the digest: the padding goes after what is buffered
unfoldable pub finished_hash : Running → List ℕ
finished_hash s = bytes_of (hash_all s.h (pending s ++ padding s.total))

-- For clients, over lists of bytes. Absorbing parts one after the other is absorbing their join
abbrev pub PartsJoin : Type 0
PartsJoin = (m : List ℕ) (parts : List (List ℕ)) → absorbed_all (state_after m) parts ≡ state_after (m ++ flatten parts)

-- finishing gives SHA-256 of all that was absorbed
abbrev pub FinishHashes : Type 0
FinishHashes = (m : List ℕ) → finished_hash (state_after m) ≡ sha256 m
