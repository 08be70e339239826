use Rattle.std.proofs.Common.{◌<◌, arith}
use native.Mathlib.Nat.{le_refl}
use Rattle.travel.specs.Unfolds.{few_roads}
use Rattle.travel.proofs.Ways.{way_held, way_road, way_road_unfolds, way_halves, way_unfolds}
use Rattle.travel.proofs.path.+count_roads.Goals as goal

pub way_at-requires : goal.way_at-requires
way_at-requires t c =
    let o = c.args.opened.now in way_held o.records.laid o.sound c.args.e c.args.x _ c.requires c.word_of-w.ensures

pub road_duration-duration-requires : goal.road_duration-duration-requires
road_duration-duration-requires t c =
    let o = c.args.opened.now in way_road o.records.laid o.sound c.args.e c.args.x _ c.requires c.word_of-w.ensures _ c.in-Road.ensures

pub returns-in-Road : goal.returns-in-Road
returns-in-Road t c =
    let o = c.args.opened.now in
    way_road_unfolds o.records.laid o.sound c.args.e c.args.x _ c.requires c.word_of-w.ensures _ c.in-Road.ensures _ c.road_duration-duration.ensures

pub count_roads-a-requires : goal.count_roads-a-requires
count_roads-a-requires t c =
    let o = c.args.opened.now in
    let H = way_halves o.records.laid o.sound c.args.e c.args.x _ c.requires c.word_of-w.ensures _ _ c.in-Turn.ensures in
    let m : c.in-Turn.left < t = omega (arith, c.decreases, H.left_below) in
    (m, H.left)

pub overflow_add-x : goal.overflow_add-x
overflow_add-x t c =
    let o = c.args.opened.now in
    let H = way_halves o.records.laid o.sound c.args.e c.args.x _ c.requires c.word_of-w.ensures _ _ c.in-Turn.ensures in
    omega (arith, c.count_roads-a.ensures.duration, (H.right _ (le_refl _)).fits)

pub count_roads-b-requires : goal.count_roads-b-requires
count_roads-b-requires t c =
    let o = c.args.opened.now in
    let H = way_halves o.records.laid o.sound c.args.e c.args.x _ c.requires c.word_of-w.ensures _ _ c.in-Turn.ensures in
    let m : c.in-Turn.right < t = omega (arith, c.decreases, H.right_below) in
    (m, H.right _ (omega (arith, c.count_roads-a.ensures.duration)))

pub overflow_add-roads : goal.overflow_add-roads
overflow_add-roads t c =
    let o = c.args.opened.now in
    let u = way_unfolds o.records.laid o.sound c.args.e c.args.x _ c.requires c.word_of-w.ensures _ _ c.in-Turn.ensures
    _ c.count_roads-a.ensures _ c.count_roads-b.ensures in
    omega (arith, few_roads _ o.sound c.args.e c.args.x _ c.requires.there u)

pub overflow_add-duration : goal.overflow_add-duration
overflow_add-duration t c =
    let o = c.args.opened.now in
    let H = way_halves o.records.laid o.sound c.args.e c.args.x _ c.requires c.word_of-w.ensures _ _ c.in-Turn.ensures in
    omega (arith, H.sum _ _ _ c.count_roads-a.ensures.duration c.count_roads-b.ensures.duration)

pub returns-in-Turn : goal.returns-in-Turn
returns-in-Turn t c =
    let o = c.args.opened.now in
    way_unfolds o.records.laid o.sound c.args.e c.args.x _ c.requires c.word_of-w.ensures _ _ c.in-Turn.ensures
    _ c.count_roads-a.ensures _ c.count_roads-b.ensures
