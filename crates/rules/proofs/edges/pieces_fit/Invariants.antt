use Rattle.std.proofs.Common.{◌≡◌, ◌-◌, ◌<◌}
use Rattle.block.specs.First.{Passed}
use Rattle.records.specs.Format.{volume_of}
use Rattle.rules.specs.Rules.{piece_rule, greatest_span, start}
use Rattle.rules.proofs.edges.pieces_fit.Given as goal

abbrev pub invariant-loop-i : goal.invariant-loop-i
invariant-loop-i l =
    let vol = volume_of l.passed.records.bytes.now in
    Passed (piece_rule vol l.passed.edge) (vol.edge_pieces l.passed.edge) l.i
    × (l.greatest ≡ greatest_span vol (vol.edge_first l.passed.edge) l.i)
    × (0 < l.i → l.before ≡ start vol l.passed.edge (l.i - 1))
