use Rattle.std.proofs.Common.{◌+◌, ◌*◌, ◌<◌, arith}
use native.Mathlib.Nat.{le_refl}
use Rattle.travel.proofs.Ways.{stands_between, way_held, way_road, way_lasts, way_halves, way_arrives}
use Rattle.travel.proofs.digest.Timetable.+piece_duration_pieces_duration.Goals as goal

pub piece_duration-way_at-requires : goal.piece_duration-way_at-requires
piece_duration-way_at-requires t c =
    let o = c.args.self.now.opened in
    way_held o.records.laid o.sound c.args.e c.args.x _ c.requires.enters c.requires.w_value

pub piece_duration-road_lasts-requires : goal.piece_duration-road_lasts-requires
piece_duration-road_lasts-requires t c =
    let o = c.args.self.now.opened in
    way_road o.records.laid o.sound c.args.e c.args.x _ c.requires.enters c.requires.w_value _ c.in-Road.ensures

pub piece_duration-returns-in-Road : goal.piece_duration-returns-in-Road
piece_duration-returns-in-Road t c =
    let o = c.args.self.now.opened in
    way_lasts o.records.laid o.sound c.args.e c.args.x _ c.requires.enters c.requires.w_value _ c.in-Road.ensures _ c.road_lasts.ensures

pub piece_duration-pieces-left_at-requires : goal.piece_duration-pieces-left_at-requires
piece_duration-pieces-left_at-requires t c =
    let o = c.args.self.now.opened in
    let H = way_halves o.records.laid o.sound c.args.e c.args.x _ c.requires.enters c.requires.w_value _ _ c.in-Turn.ensures in
    omega (arith, c.requires.enters.there, H.left_below, H.right_below)

pub piece_duration-pieces-left_end-requires : goal.piece_duration-pieces-left_end-requires
piece_duration-pieces-left_end-requires t c =
    let o = c.args.self.now.opened in
    let H = way_halves o.records.laid o.sound c.args.e c.args.x _ c.requires.enters c.requires.w_value _ _ c.in-Turn.ensures in
    omega (arith, c.requires.enters.there, H.left_below, H.right_below)

pub piece_duration-pieces-right_at-requires : goal.piece_duration-pieces-right_at-requires
piece_duration-pieces-right_at-requires t c =
    let o = c.args.self.now.opened in
    let H = way_halves o.records.laid o.sound c.args.e c.args.x _ c.requires.enters c.requires.w_value _ _ c.in-Turn.ensures in
    omega (arith, c.requires.enters.there, H.left_below, H.right_below)

pub piece_duration-pieces-right_end-requires : goal.piece_duration-pieces-right_end-requires
piece_duration-pieces-right_end-requires t c =
    let o = c.args.self.now.opened in
    let H = way_halves o.records.laid o.sound c.args.e c.args.x _ c.requires.enters c.requires.w_value _ _ c.in-Turn.ensures in
    omega (arith, c.requires.enters.there, H.left_below, H.right_below)

pub piece_duration-pieces_duration-a-requires : goal.piece_duration-pieces_duration-a-requires
piece_duration-pieces_duration-a-requires t c =
    let o = c.args.self.now.opened in
    let H = way_halves o.records.laid o.sound c.args.e c.args.x _ c.requires.enters c.requires.w_value _ _ c.in-Turn.ensures in
    let m : 2 * c.in-Turn.left + 1 < t = omega (arith, c.decreases, H.left_below) in
    (m, (H.left, stands_between o.sound c.in-Turn.left H.left.there _ _ c.pieces-left_at.ensures.0 c.pieces-left_end.ensures.0))

pub piece_duration-overflow_add-x : goal.piece_duration-overflow_add-x
piece_duration-overflow_add-x t c =
    let o = c.args.self.now.opened in
    let H = way_halves o.records.laid o.sound c.args.e c.args.x _ c.requires.enters c.requires.w_value _ _ c.in-Turn.ensures in
    omega (arith, c.pieces_duration-a.ensures, (H.right _ (le_refl _)).fits)

pub piece_duration-pieces_duration-b-requires : goal.piece_duration-pieces_duration-b-requires
piece_duration-pieces_duration-b-requires t c =
    let o = c.args.self.now.opened in
    let H = way_halves o.records.laid o.sound c.args.e c.args.x _ c.requires.enters c.requires.w_value _ _ c.in-Turn.ensures in
    let m : 2 * c.in-Turn.right + 1 < t = omega (arith, c.decreases, H.right_below) in
    let E = H.right _ (omega (arith, c.pieces_duration-a.ensures)) in
    (m, (E, stands_between o.sound c.in-Turn.right E.there _ _ c.pieces-right_at.ensures.0 c.pieces-right_end.ensures.0))

pub piece_duration-overflow_add-result : goal.piece_duration-overflow_add-result
piece_duration-overflow_add-result t c =
    let o = c.args.self.now.opened in
    let H = way_halves o.records.laid o.sound c.args.e c.args.x _ c.requires.enters c.requires.w_value _ _ c.in-Turn.ensures in
    omega (arith, H.sum _ _ _ c.pieces_duration-a.ensures c.pieces_duration-b.ensures)

pub piece_duration-returns-in-Turn : goal.piece_duration-returns-in-Turn
piece_duration-returns-in-Turn t c =
    let o = c.args.self.now.opened in
    way_arrives o.records.laid o.sound c.args.e c.args.x _ c.requires.enters c.requires.w_value _ _ c.in-Turn.ensures _ _ c.pieces_duration-a.ensures c.pieces_duration-b.ensures
