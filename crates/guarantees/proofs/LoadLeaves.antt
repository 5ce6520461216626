-- An accepted load leaves the records' trees in the slots, in the order of placing, and the slots of the exports.
use Rattle.std.specs.Prelude.{Result, Err}
use Rattle.loader.specs.Accepted.{accepted}
use Rattle.loader.specs.declared.Accepted.{Accepted}
use Prim.Native.Nat.{ℕ, zero, suc, ◌≤◌, ◌<◌}
use mathlib.Core.Path.{◌≡◌, refl, sym, ap, ◌∙◌}
use mathlib.Core.Bool.{false}
use mathlib.Core.List.{List, [], ◌∷◌, ◌++◌, map}
use native.Mathlib.Omega.{arith}
use native.Mathlib.Decide.{dec_lt, ℕ_discrete}
use lib.ListN.{length, get_or, take, drop, length-append, length-drop}
use lib.Seq.{take_at, drop_at, length-take-le}
use lib.IntN.{ℤ, pos}
use Rattle.lists.specs.Among.{Among, here, there}
use Rattle.calculus.specs.Tree.{Tree}
use Rattle.table.specs.Slots.{room}
use Rattle.table.proofs.BaseLaws.{from_inside}
use Rattle.manifest.specs.Content.{Export}
use Rattle.nodes.specs.Records.{NodeRecord, hashes}
use Rattle.nodes.specs.Links.{placed_of}
use Rattle.nodes.proofs.Children.{hashes_at_lem, number_of}
use Rattle.references.specs.References.{export_hashes}
use Rattle.references.proofs.Hashes.{export_hashes_length}
use Rattle.soundness.specs.Graph.{Names}
use Rattle.soundness.specs.NodesGrammar.{IsNodes}
use Rattle.soundness.specs.Sound.{Sound}
use Rattle.soundness.proofs.NodesCircles.{short_exactly}
use Rattle.soundness.proofs.Meaning.{one_tree_each}
use Rattle.loader.specs.Answer.{load_numbers}
use Rattle.unpacking.specs.Written.{slot_named, written, slots_named}
use Rattle.loader.specs.Load.{unfit, load_refusal, loaded, exports_written, accept, accept_from, load}
use Rattle.guarantees.specs.Order.{TreesOf, none, more}
use Rattle.guarantees.specs.Load.{NamedSlot, Loads, LoadLeaves}
use Rattle.guarantees.proofs.PlacingOrder.{among_hash, placing_among, order, order_long, in_order}
use Rattle.soundness.proofs.NodesHashes.{some_nodes, one_leaf}
use Rattle.guarantees.proofs.LoadedTable.{named_holds, slot_order, written_untouched, table_holds}
use Rattle.guarantees.proofs.LoadVerdict.{fitting, unrefused_exactly, load_unrefused, load_refused}
use Rattle.guarantees.proofs.LoadAccepted.{nodes_read, exports_read, unrefused_loadable}

-- ---- lists

-- the hash of the i-th export
export_hash : (es : List Export) (i : ℕ) → i < length es →
    (e : Export) × Among e es × (get_or (export_hashes es) i [] ≡ e.hash)
unfolding export_hashes
export_hash [] i l = absurd (omega arith)
export_hash (e ∷ es) zero l = (e, here, refl)
export_hash (e ∷ es) (suc i) l = let (f, a, q) = export_hash es i (omega arith) in (f, there a, q)

-- the hashes of the exports, one by one
hashes_mapped : (es : List Export) → export_hashes es ≡ map (λ (e : Export). e.hash) es
unfolding export_hashes
hashes_mapped [] = refl
hashes_mapped (e ∷ es) = ap (λ (hs : List (List ℕ)). e.hash ∷ hs) (hashes_mapped es)

-- the slots of some hashes
module _ (rs : List NodeRecord) where
  slots_long : (hs : List (List ℕ)) → length (slots_named rs hs) ≡ length hs
  unfolding slots_named
  slots_long [] = refl
  slots_long (h ∷ hs) = ap suc (slots_long hs)

  slots_at : (hs : List (List ℕ)) (rest : List ℕ) (i : ℕ) → i < length hs →
      get_or (slots_named rs hs ++ rest) i 0 ≡ (slot_named rs (get_or hs i [])).0
  unfolding slots_named
  slots_at [] rest i l = absurd (omega arith)
  slots_at (h ∷ hs) rest zero l = refl
  slots_at (h ∷ hs) rest (suc i) l = slots_at hs rest i (omega arith)

-- ---- the load of a sound bundle that fits, its base at word b

module _ (file w out : List ℕ) (b : ℕ) (sound : Sound file) (inside : b ≤ length w)
    (fits : length sound.nodes ≤ room (drop b w))
    (space : length sound.described.manifest.exports ≤ length out) where
  abbrev rs : List NodeRecord
  rs = sound.nodes

  abbrev es : List Export
  es = sound.described.manifest.exports

  abbrev are : IsNodes rs sound.nodes_bytes
  are = sound.is_nodes

  some : 0 < length rs
  some = some_nodes are

  whole : length rs ≤ (placed_of rs).count
  whole =
      elim (dec_lt (placed_of rs).count (length rs)) [
        | yes l ↦ absurd (sound.acyclic ((short_exactly rs are sound.distinct sound.closed).0 l))
        | no l ↦ omega (arith, l)
      ]

  abbrev placed_all : List NodeRecord
  placed_all = order rs are sound.distinct sound.closed whole

  abbrev table : List ℕ
  table = written rs 0 rs (drop b w)

  abbrev left : List ℕ
  left = take b w ++ table

  trees_of : (ps : List NodeRecord) → ((r : NodeRecord) → Among r ps → Among r rs) →
      (ts : List Tree) × TreesOf rs ps ts × (length ts ≡ length ps)
  trees_of [] among = ([], none, refl)
  trees_of (p ∷ ps) among =
      let (t, n, _) = one_tree_each file sound p (among p here) in
      let (ts, m, l) = trees_of ps (λ r a. among r (there a)) in
      (t ∷ ts, more n m, ap suc l)

  -- the slot that a hash of the bundle names
  slot_of : (h : List ℕ) → Among h (hashes rs) → NamedSlot rs placed_all table (slot_named rs h).0 h
  slot_of h a =
      let (r, m, e) = among_hash rs a in
      let (i, l, f) = number_of m in
      let (t, n, _) = one_tree_each file sound r m in
      let names : Names rs h t = rw e at n in
      record {
        tree = t;
        names = names;
        holds = named_holds rs are sound.distinct sound.closed whole (drop b w) fits names;
        placed =
            hashes_at_lem placed_all (slot_named rs h).0
            ∙ slot_order rs are sound.distinct sound.closed whole h i l (ap (λ (q : NodeRecord). q.hash) f ∙ e);
      }

  left_table : drop b left ≡ table
  left_table = drop_at (take b w) table b (length-take-le b w inside)

  pub loads : Loads file w (pos b) out left (exports_written rs es out) (load_numbers (accepted (length rs) (length es)))
  unfolding exports_written
  loads =
      let is-order = in_order rs are sound.distinct sound.closed whole some in
      let (store, trees, long) = trees_of placed_all (λ r a. placing_among rs is-order.placing a) in
      let k = slots_long rs (export_hashes es) in
      let m = export_hashes_length es in
      record {
        sound = sound;
        at = b;
        base_is = refl;
        inside = inside;
        number = refl;
        nodes = refl;
        listed = refl;
        order = placed_all;
        in_order = is-order;
        store = store;
        trees = trees;
        holding =
            rw left_table
            (table_holds rs are sound.distinct sound.closed whole (drop b w) fits
            (one_leaf rs sound.hashed sound.distinct) some store trees
            (long ∙ order_long rs are sound.distinct sound.closed whole));
        before = take_at (take b w) table b (length-take-le b w inside);
        untouched = rw left_table (written_untouched rs are sound.distinct sound.closed whole (drop b w) fits);
        export_slots = λ i l.
            let (e, a, q) = export_hash es i l in
            rw (left_table, ← hashes_mapped es, slots_at rs (export_hashes es) (drop (length es) out) i (omega arith))
            (slot_of (get_or (export_hashes es) i []) (rw q (sound.exports e a)));
        space = space;
        exports_long = simp (length-append, length-drop) (omega arith);
        exports_rest = drop_at (slots_named rs (export_hashes es)) (drop (length es) out) (length es) (k ∙ m);
      }

-- ---- any accepted load

module _ (file w out : List ℕ) (base : ℤ) (e : load_refusal file w base out ≡ 0) where
  -- what it leaves and answers is that of the bundle, at the base
  accepted_as : (sound : Sound file) (b : ℕ) → base ≡ pos b → b ≤ length w →
      load file w base out ≡
      loaded (take b w ++ written sound.nodes 0 sound.nodes (drop b w))
      (exports_written sound.nodes sound.described.manifest.exports out)
      (accepted (length sound.nodes) (length sound.described.manifest.exports))
  unfolding accept_from accept
  accepted_as sound b q inside =
      load_unrefused file w base out e ∙ rw (q, from_inside w _ _ b inside, nodes_read sound, exports_read sound)

pub load_leaves : LoadLeaves load
load_leaves file words words' base exports exports' a e y =
    elim (ℕ_discrete (load_refusal file words base exports) 0) [
      | no d ↦
          let f = sym (load_refused file words base exports d) ∙ e in
          let q : Err (load_refusal file words base exports) ≡ a = cc in
          absurd (d (ap (λ (x : Result Accepted ℕ). (load_numbers x).number) q ∙ y))
      | yes z ↦
          let l = unrefused_loadable file words base exports z in
          let sound = l.sound in
          let (_, r21, _) = (unrefused_exactly file words base exports).0 z in
          let r : unfit words base (length sound.nodes) ≡ false = rw (nodes_read sound) at r21 in
          let (b, q, inside, fits) = fitting words _ base r in
          go b q (sym (accepted_as file words exports base z sound b q inside) ∙ e)
          (loads file words exports b sound inside fits l.space)
    ]
  where
    go : {w v : List ℕ} {c : Result Accepted ℕ} (b : ℕ) → base ≡ pos b → loaded w v c ≡ loaded words' exports' a →
        Loads file words (pos b) exports w v (load_numbers c) → Loads file words base exports words' exports' (load_numbers a)
    go {w} {v} {c} b q f l =
        let x : w ≡ words' = cc in
        let y : v ≡ exports' = cc in
        let s : c ≡ a = cc in
        rw (q, ← x, ← y, ← s) l
