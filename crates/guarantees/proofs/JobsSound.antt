-- A run that was let start leaves sound waiting jobs.
use Prim.Native.Nat.{ℕ}
use mathlib.Core.List.{List, []}
use Rattle.calculus.specs.Machine.{Outcome}
use Rattle.frames.specs.SoundFrames.{SoundJobs}
use Rattle.frames.proofs.SoundFrames.{standing_sound}
use Rattle.engine.specs.Answer.{RunNumbers}
use Rattle.guarantees.specs.Agrees.{Agrees, agrees_done, agrees_stop}
use Rattle.guarantees.specs.Run.{JobsSound}
use Rattle.guarantees.proofs.Begins.{begun}

agrees_sound : {w j v k : List ℕ} {n : ℕ} {a : RunNumbers} {o : Outcome} → Agrees w n j v k a o
    → SoundJobs a.used k a.waiting
agrees_sound {v = v} {k = k} (agrees_done h l) = standing_sound v _ k [] l.places tt l.above
agrees_sound {v = v} {k = k} (agrees_stop {frames = frames} f x s l) = standing_sound v _ k frames l.places s l.above

pub jobs_sound : JobsSound
jobs_sound from w v j k base f x used fuel a e s = agrees_sound (begun from w v j k base f x used fuel a s e).1
