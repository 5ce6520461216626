-- The count of bits ends the block that holds the mark, or one after it.
use Rattle.std.proofs.Common.{◌≡◌, ◌∙◌, length, arith, rules}
use Rattle.sha256.proofs.Finishing.{finish_one, finish_two}
use Rattle.sha256.proofs.Running.finish.Goals as goal
use Rattle.sha256.proofs.Running.finish.Goals.{then-at-ge-ONE_BLOCK, else-at-ge-ONE_BLOCK}

pub returns : goal.returns
returns c =
    let s = c.args.self in
    let l : length s.block ≡ 64 = search rules in
    let bits = c.copy_over.ensures ∙ c.length_bytes.ensures in
    elim c.if-at-ge-ONE_BLOCK.branch [
      | then-at-ge-ONE_BLOCK w ↦ finish_two s l _ _ _ _ _ bits c.compress.ensures c.bytes_of.ensures _ (omega (arith, w.if-at-ge-ONE_BLOCK.true)) c.put_in_block.ensures w.block-is (w.h-is ∙ w.compress-next.ensures)
      | else-at-ge-ONE_BLOCK w ↦ finish_one s l _ _ _ _ _ bits c.compress.ensures c.bytes_of.ensures (omega (arith, w.if-at-ge-ONE_BLOCK.false)) (w.block-is ∙ c.put_in_block.ensures) w.h-is
    ]
