use Rattle.std.proofs.Common.{◌+◌}
use Rattle.block.specs.First.{Passed}
use Rattle.records.specs.Format.{volume_of, IsPoint}
use Rattle.rules.specs.Rules.{point_rule}
use Rattle.rules.proofs.roads.points_fit.Given as goal

abbrev pub invariant-loop-i : goal.invariant-loop-i
invariant-loop-i l =
    let vol = volume_of l.r.bytes.now in
    Passed (point_rule vol l.first l.n) l.n l.i × IsPoint vol (l.first + l.i) l.a
