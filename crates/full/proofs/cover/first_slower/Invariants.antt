use Rattle.std.proofs.Common.{◌≡◌, ◌≤◌}
use Rattle.records.specs.Format.{volume_of}
use Rattle.full.specs.Cover.{not_after}
use Rattle.full.specs.Runs.{first_from}
use Rattle.full.specs.Turns.{way_of}
use Rattle.full.proofs.cover.first_slower.Given as goal

abbrev pub invariant-loop-x : goal.invariant-loop-x
invariant-loop-x l =
    let late = not_after (volume_of l.times.opened.records.bytes.now) (way_of l.piece) (way_of l.way) in
    (l.from ≤ l.x) × (l.x ≤ l.end) × (first_from late l.x l.end ≡ first_from late l.from l.end)
