-- Two words a turn, so t stays even; x and y are the two newest words.
use Rattle.std.proofs.Common.{◌≡◌, ◌-◌, ◌%◌, ◌≤◌, length, get_or, take}
use Rattle.sha256_block.specs.Fips180.{schedule}
use Rattle.sha256_block.proofs.schedule.Given as goal

abbrev pub invariant-loop-t : goal.invariant-loop-t
invariant-loop-t l =
    (l.t ≤ 64) × (l.t % 2 ≡ 0) × (length l.w ≡ 64) × (l.x ≡ get_or l.w (l.t - 2) 0) × (l.y ≡ get_or l.w (l.t - 1) 0) ×
    (take l.t l.w ≡ schedule l.fn.block l.t)

abbrev pub decreases-loop-t : goal.decreases-loop-t
decreases-loop-t l = 64 - l.t
