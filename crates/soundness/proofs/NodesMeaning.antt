-- What the tests of a nodes section mean: proofs of specs/NodesMeaning.antt.
use Prim.Native.Nat.{◌<◌}
use native.Mathlib.Omega.{arith}
use lib.ListN.{length}
use Rattle.nodes.specs.Records.{children, node_hash}
use Rattle.nodes.specs.Links.{placed_of}
use Rattle.soundness.specs.NodesMeaning.{NodesShapedExactly, ReadsNodes, ReadsChildren, HashedBytes, LongestReached}
use Rattle.soundness.specs.NodesMeaning.{HashedExactly, DistinctExactly, ClosedExactly, CircularExactly, OneTreeEachHash}
use Rattle.soundness.specs.NodesMeaning.{OneHashEach}
use Rattle.soundness.proofs.NodesFormat.{shaped_nodes, nodes_shaped}
use Rattle.nodes.proofs.FaultTests.{right_exactly, once_exactly, there_exactly}
use Rattle.soundness.proofs.NodesCircles.{short_exactly, circular_iff}
use Rattle.soundness.proofs.NodesTrees.{one_tree, all_named}
use Rattle.soundness.proofs.NodesHashes.{payload_children, node_payload, one_hash}
use Rattle.soundness.proofs.NodesSizes.{payload_length, one_leaf_length}

pub shaped_exactly : NodesShapedExactly
shaped_exactly s = (shaped_nodes s, λ h. (nodes_shaped h.1).0)

pub reads_nodes : ReadsNodes
reads_nodes s rs h = (nodes_shaped h).1

pub reads_children : ReadsChildren
reads_children p cs i = payload_children i

pub hashed_bytes : HashedBytes
hashed_bytes p = (
  λ i. omega (arith, payload_length i),
  λ a i. omega (arith, payload_length i),
  λ a b i. omega (arith, payload_length i),
)

pub longest_reached : LongestReached
longest_reached r rs s are one many forks = omega (arith, one_leaf_length are one forks)

pub hashed_exactly : HashedExactly
unfolding node_hash
hashed_exactly rs = right_exactly rs rs

pub distinct_exactly : DistinctExactly
distinct_exactly rs = once_exactly rs rs

pub closed_exactly : ClosedExactly
closed_exactly s rs are =
    let (there, back) = there_exactly rs rs in (
      λ e r cs a p h b. there e r a h (rw (payload_children p) b),
      λ f. back (λ r a h b. f r (children r) a (node_payload are a) h b),
    )

pub circular_exactly : CircularExactly
circular_exactly s rs are apart closed = circular_iff rs are apart closed

pub one_tree_each : OneTreeEachHash
one_tree_each s rs are apart closed none r a =
    let whole : (placed_of rs).count < length rs → ⊥ = λ l. none ((short_exactly rs are apart closed).0 l) in
    let (t, n) = all_named rs are closed (omega arith) a in
    (t, n, λ u m. one_tree rs apart m n)

pub one_hash_each : OneHashEach
one_hash_each rs hashed h g t n m = one_hash rs hashed n m
