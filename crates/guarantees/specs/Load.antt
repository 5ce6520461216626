-- What the load call guarantees. The proofs are in proofs/, a file for each statement.
use Rattle.std.specs.Prelude.{ℕ, ◌≤◌, ◌<◌, ◌≡◌, List, [], ◌++◌, map, ◌↔◌, length, get_or, take, drop, ℤ, pos, negsuc, Result}
use Rattle.loader.specs.declared.Accepted.{Accepted}
use Rattle.calculus.specs.Tree.{Tree}
use Rattle.table.specs.Slots.{room}
use Rattle.table.specs.Holds.{Holds, Untouched}
use Rattle.nodes.specs.Records.{NodeRecord, hashes}
use Rattle.manifest.specs.Content.{Export}
use Rattle.soundness.specs.Graph.{Names}
use Rattle.soundness.specs.Sound.{Sound}
use Rattle.soundness.specs.ManifestGrammar.{Contents}
use Rattle.soundness.specs.Applies.{HasManifest, HasNodes, Applies, Smallest}
use Rattle.soundness.specs.Skipped.{ReadAlike}
use Rattle.loader.specs.Answer.{LoadNumbers, load_numbers}
use Rattle.loader.specs.Load.{Loaded, loaded, load}
use Rattle.guarantees.specs.Order.{Order, TreesOf}
use Rattle.guarantees.specs.Session.{Holding}

-- ---- which loads are accepted

-- 21: base negative or past the end of the table, or room below the node count
pub data Unfit (words : List ℕ) (nodes : ℕ) : ℤ → Type 0 where
  base_negative : {b : ℕ} → Unfit words nodes (negsuc b)
  base_past : {b : ℕ} → length words < b → Unfit words nodes (pos b)
  small_room : {b : ℕ} → room (drop b words) < nodes → Unfit words nodes (pos b)

-- a sound bundle, within the limits, that fits the lent tables
pub record Loadable (file words : List ℕ) (base : ℤ) (exports : List ℕ) : Type 0 where
  pub sound : Sound file
  pub fits : Unfit words (length sound.nodes) base → ⊥
  pub space : length sound.described.manifest.exports ≤ length exports

-- when a number applies to a load: one of 1 to 20 to the file; 21 and 22 to the nodes and the exports that it has
pub data LoadApplies (file words : List ℕ) (base : ℤ) (exports : List ℕ) : ℕ → Type 0 where
  of_file : {n : ℕ} → Applies file n → LoadApplies file words base exports n
  unfit : {rs : List NodeRecord} → HasNodes file rs → Unfit words (length rs) base → LoadApplies file words base exports 21
  crowded : {m : Contents} → HasManifest file m → length exports < length m.exports →
      LoadApplies file words base exports 22

-- what any load call leaves and answers, by the file, the word table, the base and the export table
abbrev pub LoadCall : Type 0
LoadCall = List ℕ → List ℕ → ℤ → List ℕ → Loaded

-- the numbers that it answers
abbrev pub load_numbers_of : Loaded → LoadNumbers
load_numbers_of (loaded words exports a) = load_numbers a

-- A load is accepted, which is answered with 0, exactly when the bundle is sound, within the limits, and fits.
abbrev pub LoadAcceptedExactly : Type 0
LoadAcceptedExactly =
    (file words : List ℕ) (base : ℤ) (exports : List ℕ) →
    ((load_numbers_of (load file words base exports)).number ≡ 0) ↔ Loadable file words base exports

-- A load answers n, and not 0, exactly where n is the smallest number that applies to it.
abbrev pub LoadNumberExactly : LoadCall → Type 0
LoadNumberExactly call =
    (file words : List ℕ) (base : ℤ) (exports : List ℕ) (n : ℕ) →
    (((load_numbers_of (call file words base exports)).number ≡ n) × (n ≡ 0 → ⊥)) ↔ Smallest (LoadApplies file words base exports) n

-- A refusal answers a number of the list, 1 to 22, with every other number 0, and changes no word.
abbrev pub LoadRefusalKeeps : LoadCall → Type 0
LoadRefusalKeeps call =
    (file words words' : List ℕ) (base : ℤ) (exports exports' : List ℕ) (a : Result Accepted ℕ) →
    call file words base exports ≡ loaded words' exports' a → ((load_numbers a).number ≡ 0 → ⊥) →
    (n : ℕ) × (n ≤ 22) × (load_numbers a ≡ record { number = n; nodes = 0; exports = 0 })
    × (words' ≡ words) × (exports' ≡ exports)

-- ---- what an accepted load leaves

-- the word k is the slot of the tree that a hash names: that of the record with that hash
pub record NamedSlot (rs order : List NodeRecord) (table : List ℕ) (k : ℕ) (h : List ℕ) : Type 0 where
  pub tree : Tree
  pub names : Names rs h tree
  pub holds : Holds table (length rs) k tree
  pub placed : get_or (hashes order) k [] ≡ h

-- words and exports are the tables before the load, words' and exports' those after it
pub record Loads (file words : List ℕ) (base : ℤ) (exports words' exports' : List ℕ) (answer : LoadNumbers) : Type 0 where
  pub sound : Sound file
  pub at : ℕ
  pub base_is : base ≡ pos at
  pub inside : at ≤ length words
  -- the answer is 0, the node count and the export count
  pub number : answer.number ≡ 0
  pub nodes : answer.nodes ≡ length sound.nodes
  pub listed : answer.exports ≡ length sound.described.manifest.exports
  -- slot i holds the tree that the hash of the i-th placed record names; the used slots are sound, and slot zero is the leaf
  pub order : List NodeRecord
  pub in_order : Order sound.nodes order
  pub store : List Tree
  pub trees : TreesOf sound.nodes order store
  pub holding : Holding (drop at words') answer.nodes store
  -- all other words stay, also those before the base
  pub before : take at words' ≡ take at words
  pub untouched : Untouched (drop at words) 0 (drop at words') answer.nodes
  -- the word of each export is the slot of the tree that its hash names, in manifest order; the words after them stay
  pub export_slots : (i : ℕ) → i < answer.exports →
      NamedSlot sound.nodes order (drop at words') (get_or exports' i 0)
      (get_or (map (λ (e : Export). e.hash) sound.described.manifest.exports) i [])
  pub space : answer.exports ≤ length exports
  pub exports_long : length exports' ≡ length exports
  pub exports_rest : drop answer.exports exports' ≡ drop answer.exports exports

-- what an accepted load leaves
abbrev pub LoadLeaves : LoadCall → Type 0
LoadLeaves call =
    (file words words' : List ℕ) (base : ℤ) (exports exports' : List ℕ) (a : Result Accepted ℕ) →
    call file words base exports ≡ loaded words' exports' a → (load_numbers a).number ≡ 0 →
    Loads file words base exports words' exports' (load_numbers a)

-- A sound bundle has just one order of placing, and just one store, however its soundness is shown.
abbrev pub OneOrder : Type 0
OneOrder =
    (file : List ℕ) (s s' : Sound file) (order order' : List NodeRecord) →
    Order s.nodes order → Order s'.nodes order' → order ≡ order'

abbrev pub OneStart : Type 0
OneStart =
    (file : List ℕ) (s s' : Sound file) (order : List NodeRecord) (store store' : List Tree) →
    TreesOf s.nodes order store → TreesOf s'.nodes order store' → store ≡ store'

-- Nothing is left open: a call that keeps these three promises leaves and answers what this one does, on every input. So a load
-- that refuses everything, gives one fixed answer, puts a tree into another slot or writes a word more breaks one of them.
abbrev pub OnlyLoad : Type 0
OnlyLoad =
    (call : LoadCall) → LoadNumberExactly call → LoadRefusalKeeps call → LoadLeaves call →
    (file words : List ℕ) (base : ℤ) (exports : List ℕ) → call file words base exports ≡ load file words base exports

-- ---- the words before the base

-- No word before the base is looked at or changed: wherever our part stands, and whatever is before it, all else is the same. With
-- any other base the load is refused, and changes nothing.
abbrev pub LoadBlind : Type 0
LoadBlind =
    (file before before' w exports : List ℕ) →
    (v : List ℕ) × (exports' : List ℕ) × (a : Result Accepted ℕ) ×
    (load file (before ++ w) (pos (length before)) exports ≡ loaded (before ++ v) exports' a) ×
    (load file (before' ++ w) (pos (length before')) exports ≡ loaded (before' ++ v) exports' a)

-- What is not read of a file changes nothing: two files alike in all that is read are loaded alike.
abbrev pub LoadSkips : Type 0
LoadSkips =
    (file other words : List ℕ) (base : ℤ) (exports : List ℕ) → ReadAlike file other →
    load file words base exports ≡ load other words base exports
