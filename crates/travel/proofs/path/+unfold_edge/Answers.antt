use Rattle.std.proofs.Common.{ℕ, ◌+◌, ◌<◌, ap, sym, ◌∙◌, arith, List, length}
use native.Mathlib.Nat.{le_refl}
use Rattle.records.specs.Format.{volume_of}
use Rattle.travel.specs.Network.{roads_of}
use Rattle.travel.specs.Written.{with_roads, one_written, room_after, two_written}
use Rattle.travel.proofs.Ways.{way_held, way_road, way_one, way_road_unfolds, way_halves, way_left_among, way_roads, way_unfolds}
use Rattle.travel.proofs.path.+unfold_edge.Goals as goal

pub way_at-requires : goal.way_at-requires
way_at-requires t c =
    let o = c.args.opened.now in way_held o.records.laid o.sound c.args.e c.args.x _ c.requires.enters c.word_of-w.ensures

pub bounds-path-0 : goal.bounds-path-0
bounds-path-0 t c =
    let o = c.args.opened.now in
    let k = ap length (way_one o.records.laid o.sound c.args.e c.args.x _ c.requires.enters c.word_of-w.ensures _ c.in-Road.ensures) in
    omega (arith, c.requires.x_in_bounds)

pub road_duration-duration-requires : goal.road_duration-duration-requires
road_duration-duration-requires t c =
    let o = c.args.opened.now in way_road o.records.laid o.sound c.args.e c.args.x _ c.requires.enters c.word_of-w.ensures _ c.in-Road.ensures

pub returns-in-Road-clause-unfolds : goal.returns-in-Road-clause-unfolds
returns-in-Road-clause-unfolds t c =
    let o = c.args.opened.now in
    way_road_unfolds o.records.laid o.sound c.args.e c.args.x _ c.requires.enters c.word_of-w.ensures _ c.in-Road.ensures _ c.road_duration-duration.ensures

pub returns-in-Road-clause-path_after : goal.returns-in-Road-clause-path_after
returns-in-Road-clause-path_after t c =
    let o = c.args.opened.now in
    let one = way_one o.records.laid o.sound c.args.e c.args.x _ c.requires.enters c.word_of-w.ensures _ c.in-Road.ensures in
    let k = ap length one in
    let h : 0 < length c.args.path.now = omega (arith, c.requires.x_in_bounds) in
    one_written c.args.path.now _ h ∙ ap (λ (ks : List ℕ). with_roads ks c.args.path.now) (sym one)

pub unfold_edge-a-requires : goal.unfold_edge-a-requires
unfold_edge-a-requires t c =
    let o = c.args.opened.now in
    let H = way_halves o.records.laid o.sound c.args.e c.args.x _ c.requires.enters c.word_of-w.ensures _ _ c.in-Turn.ensures in
    let m : c.in-Turn.left < t = omega (arith, c.decreases, H.left_below) in
    let room = way_left_among o.records.laid o.sound c.args.e c.args.x _ c.requires.enters c.word_of-w.ensures _ _ c.in-Turn.ensures in
    (m, (H.left, omega (arith, c.requires.x_in_bounds)))

pub overflow_add-x : goal.overflow_add-x
overflow_add-x t c =
    let o = c.args.opened.now in
    let H = way_halves o.records.laid o.sound c.args.e c.args.x _ c.requires.enters c.word_of-w.ensures _ _ c.in-Turn.ensures in
    omega (arith, c.unfold_edge-a.ensures.unfolds.duration, (H.right _ (le_refl _)).fits)

pub unfold_edge-b-requires : goal.unfold_edge-b-requires
unfold_edge-b-requires t c =
    let o = c.args.opened.now in
    let a = c.unfold_edge-a in
    let H = way_halves o.records.laid o.sound c.args.e c.args.x _ c.requires.enters c.word_of-w.ensures _ _ c.in-Turn.ensures in
    let m : c.in-Turn.right < t = omega (arith, c.decreases, H.right_below) in
    let both = ap length (way_roads o.records.laid o.sound c.args.e c.args.x _ c.requires.enters c.word_of-w.ensures _ _ c.in-Turn.ensures _ a.ensures.unfolds) in
    let ks = roads_of (volume_of o.records.bytes.now) c.in-Turn.left c.args.x in
    let js = roads_of (volume_of o.records.bytes.now) c.in-Turn.right (c.args.x + a.result.duration) in
    let room =
    room_after ks js c.args.path.now _ a.result.roads a.ensures.unfolds.roads a.ensures.path_after (omega (arith, c.requires.x_in_bounds))
    in
    (m, (H.right _ (omega (arith, a.ensures.unfolds.duration)), room))

pub overflow_add-duration : goal.overflow_add-duration
overflow_add-duration t c =
    let o = c.args.opened.now in
    let H = way_halves o.records.laid o.sound c.args.e c.args.x _ c.requires.enters c.word_of-w.ensures _ _ c.in-Turn.ensures in
    omega (arith, H.sum _ _ _ c.unfold_edge-a.ensures.unfolds.duration c.unfold_edge-b.ensures.unfolds.duration)

pub returns-in-Turn-clause-unfolds : goal.returns-in-Turn-clause-unfolds
returns-in-Turn-clause-unfolds t c =
    let o = c.args.opened.now in
    way_unfolds o.records.laid o.sound c.args.e c.args.x _ c.requires.enters c.word_of-w.ensures _ _ c.in-Turn.ensures _ c.unfold_edge-a.ensures.unfolds _ c.unfold_edge-b.ensures.unfolds

pub returns-in-Turn-clause-path_after : goal.returns-in-Turn-clause-path_after
returns-in-Turn-clause-path_after t c =
    let o = c.args.opened.now in
    let a = c.unfold_edge-a in
    let b = c.unfold_edge-b in
    let ks = roads_of (volume_of o.records.bytes.now) c.in-Turn.left c.args.x in
    let js = roads_of (volume_of o.records.bytes.now) c.in-Turn.right (c.args.x + a.result.duration) in
    let both = way_roads o.records.laid o.sound c.args.e c.args.x _ c.requires.enters c.word_of-w.ensures _ _ c.in-Turn.ensures _ a.ensures.unfolds in
    two_written ks js c.args.path.now _ a.result.roads a.ensures.unfolds.roads a.ensures.path_after _ b.ensures.path_after
    ∙ ap (λ (l : List ℕ). with_roads l c.args.path.now) (sym both)
