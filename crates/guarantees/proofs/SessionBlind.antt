-- What stands before the base at a request changes nothing: each call is one and the same on our part.
use Prim.Native.Nat.{ℕ}
use mathlib.Core.Path.{◌≡◌, refl}
use mathlib.Core.List.{List, [], ◌∷◌, map}
use lib.ListN.{length}
use lib.Seq.{drop-append_seam}
use Rattle.engine.specs.Run.{Ran, ran, run_tail, ran_with, run_from}
use Rattle.guarantees.specs.Session.{Request, to_run, Bring, Table, called, table_after}
use Rattle.guarantees.specs.Session.{bare, our_part, left_by, SessionBlind}
use Rattle.guarantees.proofs.Calls.{run_behind}

module _ (before : List ℕ) (t : Table) where
  same_left : (r : Ran) → our_part (length before) (ran_with before r) ≡ our_part 0 (ran_with [] r)
  same_left (ran v k a) = rw (drop-append_seam before v)

  same_table : (r : Ran) → table_after (length before) t (ran_with before r) ≡ table_after 0 t (ran_with [] r)
  same_table (ran v k a) = rw (drop-append_seam before v)

module _ (b : ℕ) where
  blind : (t : Table) (cs : List Request) → Bring b cs → left_by run_from b t cs ≡ left_by run_from 0 t (map bare cs)
  blind t [] bring = refl
  blind t (to_run c ∷ cs) (long, bring) =
      let r = run_tail c.from t.words c.f c.x t.used c.fuel c.jobs in
      let p : called run_from b t (to_run c) ≡ ran_with c.before r
      = rw (← long) (run_behind c.from c.before t.words c.jobs c.f c.x t.used c.fuel)
      in
      let q : called run_from 0 t (bare (to_run c)) ≡ ran_with [] r
      = run_behind c.from [] t.words c.jobs c.f c.x t.used c.fuel
      in
      let d : our_part b (ran_with c.before r) ≡ our_part 0 (ran_with [] r) = rw (← long) (same_left c.before t r) in
      let e : table_after b t (ran_with c.before r) ≡ table_after 0 t (ran_with [] r)
      = rw (← long) (same_table c.before t r)
      in
      rw (p, q, d, blind (table_after b t (ran_with c.before r)) cs bring, e)

pub session_blind : SessionBlind
session_blind b t requests bring = blind b t requests bring
