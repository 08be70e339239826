use Rattle.std.proofs.Common.{◌≡◌, length}
use Rattle.block.specs.First.{Passed}
use Rattle.records.specs.Format.{volume_of}
use Rattle.rules.specs.Kept.{Kept}
use Rattle.rules.specs.Rules.{edge_rule, begins}
use Rattle.volume.proofs.edge_pass.pass_keeping.Given as goal

abbrev pub invariant-loop-e : goal.invariant-loop-e
invariant-loop-e l =
    let vol = volume_of l.r.bytes.now in
    Passed (edge_rule vol) vol.edges l.e
    × (l.begin ≡ begins vol.edge_first vol.edge_pieces l.e)
    × Kept vol l.e l.kept
    × (length l.kept ≡ length l.initial.kept)
