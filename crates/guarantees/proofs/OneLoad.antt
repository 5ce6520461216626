-- Two loads of one file, at one base of the same tables, leave the same words and answer the same numbers.
use Prim.Native.Nat.{ℕ, ◌+◌, ◌-◌, ◌<◌}
use mathlib.Core.Path.{◌≡◌, sym, ap, ◌∙◌}
use mathlib.Core.List.{List, [], ◌++◌, map}
use native.Mathlib.Omega.{arith}
use native.Mathlib.Decide.{dec_lt}
use lib.ListN.{length, get_or, take, drop, take-append-drop}
use lib.Seq.{ext_get_or, get_or-drop}
use lib.IntN.{ℤ, pos}
use Rattle.lists.specs.Among.{Distinct}
use Rattle.manifest.specs.Content.{Export}
use Rattle.soundness.proofs.NodesTrees.{one_tree}
use Rattle.loader.specs.Answer.{LoadNumbers}
use Rattle.guarantees.specs.Session.{Holding}
use Rattle.guarantees.specs.Load.{NamedSlot, Loads}
use Rattle.guarantees.proofs.LoadAccepted.{exports_read}
use Rattle.guarantees.proofs.OneTable.{one_slot, one_table}
use Rattle.guarantees.proofs.OneOrder.{same_nodes, one_order, one_start, store_distinct}

-- the numbers of an answer are three
pub same_three : {a b : LoadNumbers} → a.number ≡ b.number → a.nodes ≡ b.nodes → a.exports ≡ b.exports → a ≡ b
same_three p q r = λ i. record { number = p i; nodes = q i; exports = r i }

module _ {file words : List ℕ} {base : ℤ} {exports w v e o : List ℕ} {a b : LoadNumbers}
    (l : Loads file words base exports w e a) (m : Loads file words base exports v o b) where
  -- the bundle, its order of placing, its store and the base are the same
  same_records : m.sound.nodes ≡ l.sound.nodes
  same_records = same_nodes l.sound m.sound

  same_exports : m.sound.described.manifest.exports ≡ l.sound.described.manifest.exports
  same_exports = sym (exports_read m.sound) ∙ exports_read l.sound

  same_order : l.order ≡ m.order
  same_order = one_order file l.sound m.sound l.order m.order l.in_order m.in_order

  same_store : l.store ≡ m.store
  same_store =
      one_start file l.sound m.sound l.order l.store m.store l.trees (rw same_order m.trees)

  same_at : m.at ≡ l.at
  same_at = let z : pos m.at ≡ pos l.at = sym m.base_is ∙ l.base_is in cc

  -- so are the numbers
  same_nodes_count : b.nodes ≡ a.nodes
  same_nodes_count = m.nodes ∙ ap length same_records ∙ sym l.nodes

  same_exports_count : b.exports ≡ a.exports
  same_exports_count = m.listed ∙ ap length same_exports ∙ sym l.listed

  same_numbers : a ≡ b
  same_numbers = same_three (l.number ∙ sym m.number) (sym same_nodes_count) (sym same_exports_count)

  -- so are the words, since the slots hold one store of distinct trees
  abbrev table : List ℕ
  table = drop l.at w

  abbrev table' : List ℕ
  table' = drop l.at v

  apart : Distinct l.store
  apart = store_distinct l.sound l.in_order l.trees

  holding' : Holding table' a.nodes l.store
  holding' = rw (same_store, ← same_at, ← same_nodes_count) m.holding

  same_table : table ≡ table'
  same_table =
      one_table a.nodes l.store apart table table' l.holding holding' (drop l.at words) l.untouched
      (rw (← same_at, ← same_nodes_count) m.untouched)

  same_words : w ≡ v
  same_words =
      let z : take l.at w ≡ take l.at v = l.before ∙ rw (← same_at) (sym m.before) in
      sym (take-append-drop l.at w) ∙ (λ i. z i ++ same_table i) ∙ take-append-drop l.at v

  -- and the export words, since a tree has one slot
  slot' : (i : ℕ) → i < a.exports →
      NamedSlot l.sound.nodes l.order table' (get_or o i 0)
      (get_or (map (λ (e : Export). e.hash) l.sound.described.manifest.exports) i [])
  slot' i k =
      rw (same_order, ← same_at, ← same_records, ← same_exports) (m.export_slots i (omega (arith, same_exports_count)))

  same_slot : (i : ℕ) → i < a.exports → get_or e i 0 ≡ get_or o i 0
  same_slot i k =
      let x = l.export_slots i k in
      let y = slot' i k in
      let z : y.tree ≡ x.tree = one_tree l.sound.nodes l.sound.distinct y.names x.names in
      one_slot a.nodes l.store apart table table' l.holding holding' {t = x.tree} (rw l.nodes x.holds)
      (rw (l.nodes, ← z) y.holds)

  same_export_words : e ≡ o
  same_export_words =
      ext_get_or 0 e o (omega (arith, l.exports_long, m.exports_long)) (λ i k.
      elim (dec_lt i a.exports) [
        | yes h ↦ same_slot i h
        | no h ↦
            let n = a.exports in
            let z : n + (i - n) ≡ i = omega (arith, h) in
            let q : drop n e ≡ drop n o = l.exports_rest ∙ rw (← same_exports_count) (sym m.exports_rest) in
            rw z at (sym (get_or-drop n e (i - n) 0) ∙ ap (λ (x : List ℕ). get_or x (i - n) 0) q ∙ get_or-drop n o (i - n) 0)
      ])

  pub one_load : (w ≡ v) × (e ≡ o) × (a ≡ b)
  one_load = (same_words, same_export_words, same_numbers)
