use Prim.Native.Nat.{◌+◌}
use mathlib.Core.Path.{sym, ap₂}
use Rattle.records.specs.Format.{period_is}
use Rattle.travel.specs.PointsFrom.{next_ends, next_is, over_ends, over_is}
use Rattle.travel.proofs.road.from_point.Goals as goal

pub line-requires-clause-ends : goal.line-requires-clause-ends
line-requires-clause-ends c =
    let p = c.point-a.ensures in
    let q = c.point-b.ensures in
    next_ends _ c.args.first c.args.n c.args.i c.args.x _ _ _ _ c.requires.points_from c.requires.line_from p.second p.duration
    c.if-i-n.true q.second q.duration

pub returns-then-i-n : goal.returns-then-i-n
returns-then-i-n c =
    let p = c.point-a.ensures in
    let q = c.point-b.ensures in
    next_is _ c.args.first c.args.n c.args.i c.args.x _ _ _ _ c.requires.points_from c.requires.line_from p.second p.duration
    c.if-i-n.true q.second q.duration _ c.line.ensures

pub line-requires-2-clause-ends : goal.line-requires-2-clause-ends
line-requires-2-clause-ends c =
    let p = c.point-a.ensures in
    let q = c.point-again.ensures in
    over_ends _ c.args.first c.args.n c.args.i c.args.x _ _ _ _ c.requires.points_from c.requires.line_from p.second p.duration
    c.if-i-n.false (ap₂ ◌+◌ q.second (sym (period_is c.args.r.now.bytes.now))) q.duration

pub returns : goal.returns
returns c =
    let p = c.point-a.ensures in
    let q = c.point-again.ensures in
    over_is _ c.args.first c.args.n c.args.i c.args.x _ _ _ _ c.requires.points_from c.requires.line_from p.second p.duration
    c.if-i-n.false (ap₂ ◌+◌ q.second (sym (period_is c.args.r.now.bytes.now))) q.duration _ c.line-2.ensures
