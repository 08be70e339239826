use native.Mathlib.Omega.{arith}
use Rattle.search.specs.Steps.{report_short, report_closed}
use Rattle.records.specs.Format.{volume_of}
use Rattle.search.specs.Trail.{part_is, trail_of}
use Rattle.search.proofs.close.Goals as goal

pub returns-then-path-roads : goal.returns-then-path-roads
returns-then-path-roads c =
    let vol = volume_of c.args.opened.now.records.bytes.now in
    let es = trail_of vol c.args.query.from c.args.query.to c.args.used c.args.work.now in
    let p = part_is c.walk_back-at.ensures 2048 (omega arith) in
    report_short vol c.args.query.departure c.args.path.now c.args.arrival c.args.used _ es (rw p at c.count_path-roads.ensures) c.if-path-roads.true

pub returns : goal.returns
returns c =
    let vol = volume_of c.args.opened.now.records.bytes.now in
    let es = trail_of vol c.args.query.from c.args.query.to c.args.used c.args.work.now in
    let p = part_is c.walk_back-at.ensures 2048 (omega arith) in
    report_closed vol c.args.query.departure c.args.path.now c.args.arrival c.args.used _ es _ (rw p at c.count_path-roads.ensures) (omega arith) (omega arith) (rw p at c.write_path.ensures)
