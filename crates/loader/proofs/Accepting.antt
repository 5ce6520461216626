-- What an accepted load writes: the calls that write are met, and together write what they should.
use Rattle.std.specs.Prelude.{Some, Result, Err}
use Rattle.loader.specs.Accepted.{accepted}
use Rattle.loader.specs.declared.Accepted.{Accepted}
use Prim.Native.Nat.{ℕ, ◌≤◌}
use mathlib.Core.Path.{◌≡◌, sym, ap, ◌∙◌}
use mathlib.Core.List.{List, ◌++◌}
use native.Mathlib.Omega.{arith}
use lib.ListN.{length, drop}
use borrow.Author.Tests.{ltb-false}
use Rattle.refusals.specs.Refusals.{answer, row_holds}
use Rattle.refusals.proofs.Rows.{answer_clear, clear_row, by_refusal, by_pass}
use Rattle.sizes.specs.Sizes.{nodes_size}
use Rattle.wire.specs.Wire.{span}
use Rattle.table.specs.Slots.{room}
use Rattle.manifest_shape.specs.Shape.{manifest_of}
use Rattle.manifest.specs.Judged.{exports_of}
use Rattle.nodes.specs.Records.{nodes_of, count}
use Rattle.container.specs.Directory.{manifest_section, nodes_section}
use Rattle.manifest.specs.declared.listed.Reference.TheVariants.{Export}
use Rattle.bundle.specs.declared.Outline.{Outline}
use Rattle.references.specs.References.{hashes_from}
use Rattle.references.proofs.Hashes.{export_hashes_length}
use Rattle.bundle.proofs.Stages.{sound_shaped, sound_closed, sound_whole}
use Rattle.bundle.proofs.Verdicts.{contents_shape, contents_manifest, contents_nodes}
use Rattle.unpacking.specs.declared.exports.ExportList.{ExportList}
use Rattle.unpacking.specs.Written.{written, slots_named}
use Rattle.loader.specs.Load.{records_in, exports_in, loaded, exports_written, accept}
use Rattle.loader.specs.Admit.{fit_checks, admitted}
use Rattle.loader.specs.Ready.{Vetted, Writable}
use Rattle.unpacking.specs.Ready.{Slotted, RecordsReady, ListedIn}
use Rattle.unpacking.proofs.Writing.{count_is}

-- ---- the writing
module _ {m : List ℕ} {x : ExportList} {s links slots w out : List ℕ} (h : Writable m x s links slots w out) where
  pub exports_ready : Slotted (nodes_of s) slots × (x.count ≤ length out) ×
      (length (hashes_from m Export x.count x.at) ≡ x.count)
  exports_ready = (
    h.records.slotted,
    h.space,
    ap length h.listed.hashes ∙ export_hashes_length (exports_of m) ∙ sym h.listed.all,
  )

  -- n stands for the count of the records, as the call answered it
  module _ {n : ℕ} (en : n ≡ count s) where
    nodes_all : n ≡ length (nodes_of s)
    nodes_all = count_is s en h.records.shape

    pub nodes_few : n ≤ nodes_size.most
    nodes_few = omega (arith, nodes_all, h.records.slotted.few)

    -- v and u stand for the tables that the calls left
    pub all_written : {v u : List ℕ} → v ≡ written (nodes_of s) 0 (nodes_of s) w →
        u ≡ slots_named (nodes_of s) (hashes_from m Export x.count x.at) ++ drop x.count out →
        loaded v u (accepted n x.count) ≡ accept (nodes_of s) (exports_of m) w out
    unfolding accept exports_written
    all_written ev eu = rw (ev, eu, h.listed.hashes, h.listed.all, nodes_all)

-- ---- 21 and 22: m and s stand for the sections, as they were lent; x for what the manifest lists, n and k for the node count and
-- the room, and r for what the test answered
module _ {file : List ℕ} {c : Outline} {links slots : List ℕ} (h : Vetted file c links slots) {m s : List ℕ}
    (em : m ≡ span file c.manifest.start c.manifest.size) (es : s ≡ span file c.nodes.start c.nodes.size) where
  manifest_is : m ≡ manifest_section file
  manifest_is = em ∙ contents_manifest file h.found

  nodes_are : s ≡ nodes_section file
  nodes_are = es ∙ contents_nodes file h.found

  pub admit_shape : manifest_of m ≡ Some c.layout
  admit_shape = rw manifest_is (contents_shape file h.found)

  ready : RecordsReady s links slots
  ready =
      rw nodes_are
      record {
        shape = sound_shaped file h.clear;
        closed = sound_closed file h.clear;
        slotted = record { few = h.placing.few; whole = sound_whole file h.clear; slots_are = h.placing.slots_are };
        space = h.placing.space;
        links_are = h.placing.links_are;
      }

  module _ (w out : List ℕ) {x : ExportList} (lx : ListedIn m x) {n : ℕ} (en : n ≡ count s) {k : ℕ} (ek : k ≡ room w) {r : ℕ}
      (er : r ≡ answer (fit_checks k (length out) n x.count)) where
    nodes_count : n ≡ length (nodes_of s)
    nodes_count = count_is s en ready.shape

    answered : r ≡ answer (fit_checks (room w) (length out) (length (records_in file)) (length (exports_in file)))
    answered = rw (← nodes_are, ← manifest_is, ← nodes_count, ← lx.all, ← ek) er

    pub admit_refused : (r ≡ 0 → ⊥) → loaded w out (Err r) ≡ admitted (records_in file) (exports_in file) w out
    unfolding admitted
    admit_refused some = by_refusal (λ i. loaded w out (Err i)) (accept (records_in file) (exports_in file) w out) answered some

    module _ (z : r ≡ 0) where
      pub admit_writable : Writable m x s links slots w out
      unfolding fit_checks row_holds
      admit_writable =
          let rows = answer_clear (fit_checks k (length out) n x.count) (omega arith) er z in
          record {
            records = ready;
            fits = omega (arith, nodes_count, ek, ltb-false k n (clear_row 21 rows));
            listed = lx;
            space = ltb-false (length out) x.count (clear_row 22 rows);
          }

      pub admit_written : {v u : List ℕ} {a : Result Accepted ℕ} → loaded v u a ≡ accept (nodes_of s) (exports_of m) w out →
          loaded v u a ≡ admitted (records_in file) (exports_in file) w out
      unfolding admitted
      admit_written e =
          (rw (nodes_are, manifest_is) at e)
          ∙ by_pass (λ i. loaded w out (Err i)) (accept (records_in file) (exports_in file) w out) answered z
