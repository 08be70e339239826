use mathlib.Core.Path.{◌≡◌}
use Prim.Native.Nat.{◌-◌}
use lib.ListN.{length}
use Rattle.records.specs.Format.{volume_of}
use Rattle.records.specs.Index.{Within, walk_at}
use Rattle.volume.specs.Repeats.{Walked}
use Rattle.volume.proofs.repeats.repeat_from.Given as goal

abbrev pub invariant-loop-at : goal.invariant-loop-at
invariant-loop-at l =
    let vol = volume_of l.index.records.bytes.now in
    Within l.at vol.edges
    × Walked vol l.index.records.counts.junctions l.u (walk_at l.at vol.edges) l.stamps
    × (length l.stamps ≡ length l.initial.stamps)

abbrev pub decreases-loop-at : goal.decreases-loop-at
decreases-loop-at l =
    let edges = (volume_of l.index.records.bytes.now).edges in
    edges - walk_at l.at edges
