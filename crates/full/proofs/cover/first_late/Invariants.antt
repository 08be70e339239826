use Rattle.std.proofs.Common.{◌≤◌}
use Rattle.block.specs.First.{Passed}
use Rattle.records.specs.Format.{volume_of}
use Rattle.full.specs.Cover.{no_slower}
use Rattle.full.specs.Parts.{Begins}
use Rattle.full.specs.Turns.{way_of}
use Rattle.full.proofs.cover.first_late.Given as goal

abbrev pub invariant-loop-i : goal.invariant-loop-i
invariant-loop-i l =
    let vol = volume_of l.times.opened.records.bytes.now in
    (l.i ≤ l.edge.pieces) × Begins vol l.e l.edge.pieces l.i l.x × Passed (no_slower vol l.e (way_of l.way)) vol.period l.x
