use mathlib.Core.Path.{refl}
use native.Mathlib.Omega.{arith}
use Rattle.records.specs.Format.{period_is}
use Rattle.travel.specs.Network.{same_second}
use Rattle.travel.specs.PointsFrom.{of_road_lem, one_is, early_line, early_is, late_line, late_is}
use Rattle.travel.specs.Row.{seconds_row, seconds_last}
use Rattle.travel.proofs.road.road_duration.Goals as goal

pub returns-then-n-eq1 : goal.returns-then-n-eq1
returns-then-n-eq1 c =
    let R = of_road_lem c.args.opened.now.sound c.requires c.road-road.ensures.first c.road-road.ensures.points in
    one_is R c.args.x _ refl _ c.if-n-eq1.true c.point-start.ensures.duration

pub from_point-requires-clause-line_from : goal.from_point-requires-clause-line_from
from_point-requires-clause-line_from c =
    let R = of_road_lem c.args.opened.now.sound c.requires c.road-road.ensures.first c.road-road.ensures.points in
    let P = period_is c.args.opened.now.records.bytes.now in
    early_line R c.args.x _ (same_second c.args.x P) _ (omega (arith, c.point-start.ensures.second)) (omega arith)

pub returns-then-y-start : goal.returns-then-y-start
returns-then-y-start c =
    let R = of_road_lem c.args.opened.now.sound c.requires c.road-road.ensures.first c.road-road.ensures.points in
    let P = period_is c.args.opened.now.records.bytes.now in
    early_is R c.args.x _ (same_second c.args.x P) _ (omega (arith, c.point-start.ensures.second)) (omega arith)
    _ c.from_point.ensures

pub last_at-w-requires : goal.last_at-w-requires
last_at-w-requires c =
    let R = of_road_lem c.args.opened.now.sound c.requires c.road-road.ensures.first c.road-road.ensures.points in
    seconds_row c.args.opened.now.records.laid R _ refl _ (omega (arith, c.point-start.ensures.second))

pub from_point-requires-2-clause-line_from : goal.from_point-requires-2-clause-line_from
from_point-requires-2-clause-line_from c =
    let R = of_road_lem c.args.opened.now.sound c.requires c.road-road.ensures.first c.road-road.ensures.points in
    let i = seconds_last c.args.opened.now.records.laid R _ refl _ _ c.last_at-w.ensures in
    late_line R c.args.x _ (same_second c.args.x (period_is c.args.opened.now.records.bytes.now)) _ (omega (arith, c.point-start.ensures.second)) i

pub returns : goal.returns
returns c =
    let R = of_road_lem c.args.opened.now.sound c.requires c.road-road.ensures.first c.road-road.ensures.points in
    let i = seconds_last c.args.opened.now.records.laid R _ refl _ _ c.last_at-w.ensures in
    late_is R c.args.x _ (same_second c.args.x (period_is c.args.opened.now.records.bytes.now)) _ (omega (arith, c.point-start.ensures.second)) i
    _ c.from_point-2.ensures
