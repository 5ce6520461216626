-- The answers of the checks mean what specs/Meaning.antt says.
use Prim.Native.Nat.{ℕ}
use mathlib.Core.Path.{◌≡◌}
use mathlib.Core.List.{List}
use mathlib.Core.Logic.Iff
use mathlib.Core.Logic.{◌↔◌}
use native.Mathlib.Omega.{arith}
use Rattle.nodes.proofs.Children.{record_at_lem}
use Rattle.bundle.specs.Checks.{name_checks, checks, name_refusal, refusal}
use Rattle.refusals.proofs.Laws.{answers_none}
use Rattle.soundness.specs.Sound.{Described}
use Rattle.soundness.specs.Meaning.{DescribedExactly, SoundExactly, AcceptedExactly, OnlyCheck, OneTreeEach, LongestNodes}
use Rattle.soundness.proofs.NodesMeaning.{one_tree_each as one-tree-of}
use Rattle.soundness.proofs.NodesHashes.{some_nodes}
use Rattle.soundness.proofs.NodesSizes.{nodes_most}
use Rattle.soundness.proofs.Smallest.{one_number}
use Rattle.soundness.proofs.Applies.{names_numbered, numbered, number_exactly, none_exactly, name_none_exactly}
use Rattle.soundness.proofs.File.{clear_described, clear_sound, described_clear, sound_clear}

-- the checks 1 to 14 answer 0 exactly for a described file
pub unrefused_described : (file : List ℕ) → (name_refusal file ≡ 0) ↔ Described file
unfolding name_refusal
unrefused_described file =
    let none = answers_none (name_checks file) (names_numbered file) in
    (λ e. clear_described file (none.1 e), λ d. none.0 (described_clear file d))

pub described_exactly : DescribedExactly
described_exactly file = Iff.trans (Iff.symm (unrefused_described file)) (name_none_exactly file)

pub accepted_exactly : AcceptedExactly
unfolding refusal
accepted_exactly file =
    let none = answers_none (checks file) (numbered file) in
    (λ e. clear_sound file (none.1 e), λ sound. none.0 (sound_clear file sound))

pub sound_exactly : SoundExactly
sound_exactly file = Iff.trans (Iff.symm (accepted_exactly file)) (none_exactly file)

pub only_check : OnlyCheck
only_check call exactly file = one_number (λ n. Iff.rfl) (exactly file) (number_exactly file)

pub one_tree_each : OneTreeEach
one_tree_each file sound r a =
    one-tree-of sound.nodes_bytes sound.nodes sound.is_nodes sound.distinct sound.closed sound.acyclic r a

pub longest_nodes : LongestNodes
longest_nodes file sound =
    let are = sound.is_nodes in
    let (t, names, _) = one_tree_each file sound _ (record_at_lem sound.nodes 0 (some_nodes are)) in
    omega (arith, nodes_most are names)
