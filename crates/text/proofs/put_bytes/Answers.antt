-- The text is copied into its part of the buffer.
use native.Mathlib.Omega.{arith}
use Rattle.text.proofs.Putting.{put_copied}
use Rattle.text.proofs.put_bytes.Goals as goal

pub returns : goal.returns
returns c = put_copied _ _ _ _ _ (omega arith) c.copy_from_slice.ensures.after c.requires
