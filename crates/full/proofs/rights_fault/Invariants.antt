use Rattle.std.proofs.Common.{◌-◌}
use Rattle.records.specs.Format.{volume_of}
use Rattle.records.specs.Index.{Within, walk_at}
use Rattle.full.specs.FaultFound.{Walked}
use Rattle.full.proofs.rights_fault.Given as goal

abbrev pub invariant-loop-at : goal.invariant-loop-at
invariant-loop-at l =
    let vol = volume_of l.map.times.opened.records.bytes.now in
    Within l.at vol.edges × Walked vol l.l (walk_at l.at vol.edges)

abbrev pub decreases-loop-at : goal.decreases-loop-at
decreases-loop-at l =
    let edges = (volume_of l.map.times.opened.records.bytes.now).edges in
    edges - walk_at l.at edges
