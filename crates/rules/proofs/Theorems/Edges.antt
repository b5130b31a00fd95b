-- The tables of edges, by computation over the definitions.
use Rattle.std.proofs.Common.{refl}
use Rattle.rules.specs.Theorems.Edges.{EdgesHold, RecordingEdgesHold, LowAddressEdgesHold}
use Rattle.rules.specs.Theorems.KeyEdges.{KeyEdgesHold}
use Rattle.rules.specs.Theorems.LoadEdges.{LoadEdgesHold}
use Rattle.rules.proofs.Computing.{computing}

pub edges_hold : EdgesHold
unfolding computing
edges_hold = refl

pub recording_edges_hold : RecordingEdgesHold
unfolding computing
recording_edges_hold = refl

pub low_address_edges_hold : LowAddressEdgesHold
unfolding computing
low_address_edges_hold = refl

pub key_edges_hold : KeyEdgesHold
unfolding computing
key_edges_hold = refl

pub load_edges_hold : LoadEdgesHold
unfolding computing
load_edges_hold = refl
