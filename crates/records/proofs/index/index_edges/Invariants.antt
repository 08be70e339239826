use Rattle.std.proofs.Common.{◌≤◌, length}
use Rattle.records.specs.Format.{volume_of}
use Rattle.records.specs.Index.{Indexed}
use Rattle.records.proofs.index.index_edges.Given as goal

abbrev pub invariant-loop-e : goal.invariant-loop-e
invariant-loop-e l =
    (l.e ≤ (volume_of l.r.bytes.now).edges)
    × Indexed (volume_of l.r.bytes.now) l.initial.first l.initial.next l.first l.next l.e
    × ((volume_of l.r.bytes.now).junctions ≤ length l.first)
    × ((volume_of l.r.bytes.now).edges ≤ length l.next)
