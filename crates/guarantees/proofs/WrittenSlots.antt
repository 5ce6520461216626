-- The table with records in their slots: each slot has its record's node, and all other words stay.
use Prim.Native.Nat.{ℕ, zero, suc, ◌+◌, ◌*◌, ◌≤◌, ◌<◌}
use mathlib.Core.Path.{◌≡◌, refl, ◌∙◌}
use mathlib.Core.List.{List, [], ◌∷◌}
use native.Mathlib.Omega.{arith}
use lib.ListN.{length, get_or}
use Rattle.table.specs.declared.slots.Node.{Node}
use Rattle.table.specs.Slots.{room, put_node}
use Rattle.table.proofs.SlotLaws.{Has, room_long, length_put, put_outside, put_here, put_other}
use Rattle.nodes.specs.Records.{NodeRecord as Record, children}
use Rattle.nodes.proofs.Children.{children_at}
use Rattle.unpacking.specs.Written.{record_slot, record_node, written}

module _ (all : List Record) where
  pub written_long : (i : ℕ) (rs : List Record) (w : List ℕ) → length (written all i rs w) ≡ length w
  unfolding written
  written_long i [] w = refl
  written_long i (r ∷ rs) w =
      written_long (i + 1) rs (put_node w (record_slot all i).0 (record_node all (children r)))
      ∙ length_put w (record_slot all i).0 (record_node all (children r))

  -- a slot that none of the records has keeps its node
  written_other : (i : ℕ) (rs : List Record) (w : List ℕ) (k : ℕ) (n : Node) →
      ((j : ℕ) → j < length rs → k ≡ (record_slot all (i + j)).0 → ⊥) → Has w k n → Has (written all i rs w) k n
  unfolding written
  written_other i [] w k n apart h = h
  written_other i (r ∷ rs) w k n apart h =
      written_other (i + 1) rs (put_node w (record_slot all i).0 (record_node all (children r))) k n
      (λ j l e. apart (suc j) (omega arith) (let z : i + suc j ≡ i + 1 + j = omega arith in rw z e))
      (put_other w (record_slot all i).0 (record_node all (children r)) k n
      (λ e. apart 0 (omega arith) (let z : i + 0 ≡ i = omega arith in rw z e)) h)

  -- a word after all their slots keeps its contents
  pub written_over : (m i : ℕ) (rs : List Record) (w : List ℕ) (k : ℕ) → ((j : ℕ) → j < length rs → (record_slot all (i + j)).0 < m) →
      2 * m ≤ k → get_or (written all i rs w) k 0 ≡ get_or w k 0
  unfolding written
  written_over m i [] w k low h = refl
  written_over m i (r ∷ rs) w k low h =
      let s : (record_slot all i).0 < m = (let z : i + 0 ≡ i = omega arith in rw z at (low 0 (omega arith))) in
      written_over m (i + 1) rs (put_node w (record_slot all i).0 (record_node all (children r))) k
      (λ j l. let z : i + suc j ≡ i + 1 + j = omega arith in rw z at (low (suc j) (omega arith))) h
      ∙ put_outside w (record_slot all i).0 (record_node all (children r)) k (λ e. omega arith) (λ e. omega arith)

  -- each record's slot has its node
  pub written_each : (i : ℕ) (rs : List Record) (w : List ℕ) →
      ((j k : ℕ) → j < length rs → k < length rs → (record_slot all (i + j)).0 ≡ (record_slot all (i + k)).0 → j ≡ k) →
      ((j : ℕ) → j < length rs → (record_slot all (i + j)).0 < room w) → (j : ℕ) → j < length rs →
      Has (written all i rs w) (record_slot all (i + j)).0 (record_node all (children_at rs j))
  unfolding written
  written_each i [] w apart fits j l = absurd (omega arith)
  written_each i (r ∷ rs) w apart fits zero l =
      let z : i + 0 ≡ i = omega arith in
      let f : (record_slot all i).0 < room w = rw z at (fits 0 l) in
      rw z
      (written_other (i + 1) rs (put_node w (record_slot all i).0 (record_node all (children r))) (record_slot all i).0 (record_node all (children r))
      (λ j m e.
      let y : i + suc j ≡ i + 1 + j = omega arith in
      let x : 0 ≡ suc j = apart 0 (suc j) (omega arith) (omega arith) (rw (z, y) e) in
      omega arith)
      (put_here w (record_slot all i).0 (record_node all (children r)) f))
  written_each i (r ∷ rs) w apart fits (suc j) l =
      let z : i + suc j ≡ i + 1 + j = omega arith in
      let w' = put_node w (record_slot all i).0 (record_node all (children r)) in
      rw z
      (written_each (i + 1) rs w'
      (λ a b m n e.
      let x : i + suc a ≡ i + 1 + a = omega arith in
      let y : i + suc b ≡ i + 1 + b = omega arith in
      let q : suc a ≡ suc b = apart (suc a) (suc b) (omega arith) (omega arith) (rw (x, y) e) in
      omega arith)
      (λ a m.
      let x : i + suc a ≡ i + 1 + a = omega arith in
      let g : (record_slot all (i + 1 + a)).0 < room w = rw x at (fits (suc a) (omega arith)) in
      rw (room_long w w' (length_put w (record_slot all i).0 (record_node all (children r)))) g)
      j (omega arith))
