-- Two calls that go as the machine does on one store go the same over a list: request by request, each in its own table.
use Prim.Native.Nat.{ℕ}
use mathlib.Core.Path.{◌≡◌, refl, sym, ◌∙◌}
use mathlib.Core.List.{List, [], ◌∷◌, ◌++◌}
use lib.ListN.{length, drop}
use lib.Seq.{drop-append_seam}
use Rattle.calculus.specs.Tree.{Tree}
use Rattle.calculus.specs.Machine.{Outcome}
use Rattle.engine.specs.Run.{Ran}
use Rattle.engine.specs.Answer.{RunNumbers}
use Rattle.guarantees.specs.Agrees.{Agrees, agrees_done, agrees_stop}
use Rattle.guarantees.specs.Run.{Calls}
use Rattle.guarantees.specs.Session.{Request, before_of, Bring, Reply, reply, store_after, Table, called, table_after}
use Rattle.guarantees.specs.Session.{Alike, alike_refused, alike_answered, AllAlike}
use Rattle.guarantees.specs.OnlyRun.{SameSince, SameAnswer, refused_alike, ended_alike, SameAll, OnlySession}
use Rattle.guarantees.proofs.SessionSimulates.{used_grows, agrees_starts}
use Rattle.guarantees.proofs.OnlyRun.{since_start, since_grows, same_end}

module _ (b n : ℕ) where
  -- two tables on the way
  record Pair (t t' : Table) : Type 0 where
    used : t.used ≡ t'.used
    since : SameSince n t.used t.words t'.words

  -- the slots that two runs of one outcome leave
  since_both : {w w' j v k v' k' : List ℕ} {q : ℕ} {a a' : RunNumbers} {o : Outcome} → SameSince n q w w'
      → Agrees w q j v k a o → Agrees w' q j v' k' a' o → SameSince n a.used v v'
  since_both s (agrees_done h l) (agrees_done h' l') = since_grows s l l'
  since_both s (agrees_stop f x h l) (agrees_stop f' x' h' l') = since_grows s l l'

  module _ (t t' : Table) (pair : Pair t t') (c : Request) (long : length (before_of c) ≡ b) where
    -- what both answer, and the tables that they leave
    abbrev Goes : Ran → Ran → Type 0
    Goes r r' = SameAnswer n t t' c r r' × Pair (table_after b t r) (table_after b t' r')

    seam : (v : List ℕ) → drop b (before_of c ++ v) ≡ v
    seam v = rw (← long) (drop-append_seam (before_of c) v)

    one_request : (r r' : Ran) (p : Reply) → Alike t c r p → Alike t' c r' p → Goes r r'
    one_request r r' p (alike_refused {a = a} e z) (alike_refused {a = a'} e' z') = (
      refused_alike {a = a} {a' = a'} e e',
      record {
        used = rw (e, e', z) pair.used;
        since = rw (e, z, seam t.words, seam t'.words) pair.since;
      },
    )
    one_request r r' p (alike_answered {w = v} {j = k} {a = a} h) (alike_answered {w = v'} {j = k'} {a = a'} h') =
        let g = rw (← pair.used) at h' in (
          ended_alike {v = v} {k = k} {v' = v'} {k' = k'} {a = a} {a' = a'} (same_end pair.since h g),
          record {
            used = rw (agrees_starts h, agrees_starts g) (used_grows h ∙ sym (used_grows g));
            since = rw (agrees_starts h, seam v, seam v') (since_both pair.since h g);
          },
        )

module _ (call other : Calls) (b n most : ℕ) where
  same_all : (cs : List Request) (t t' : Table) (store : List Tree) → Pair b n t t' → Bring b cs
      → AllAlike call b most t store cs → AllAlike other b most t' store cs → SameAll call other b n t t' cs
  same_all [] t t' store pair bring h h' = (pair.used, pair.since)
  same_all (c ∷ cs) t t' store pair bring h h' =
      let r = called call b t c in
      let r' = called other b t' c in
      let p = reply most store c in
      let (same, next) = one_request b n t t' pair c bring.0 r r' p h.0 h'.0 in
      (same, same_all cs (table_after b t r) (table_after b t' r') (store_after store p) next bring.1 h.1 h'.1)

pub only_session : OnlySession
only_session call other b most t store requests bring h h' =
    same_all call other b t.used most requests t t store
    (record { used = refl; since = since_start t.used t.words }) bring h h'
