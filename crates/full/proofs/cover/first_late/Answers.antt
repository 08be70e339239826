use Rattle.std.proofs.Common.{◌≤◌, refl, ap, sym, ◌∙◌, arith}
use Rattle.records.specs.Format.{volume_of}
use Rattle.theory.specs.Network.{Piece}
use Rattle.block.specs.First.{first_start}
use Rattle.full.specs.Cover.{not_after}
use Rattle.full.specs.Parts.{begins_first, begins_next, piece_bounds, piece_known, late_inside, late_past, late_never}
use Rattle.full.specs.Runs.{first_from}
use Rattle.full.specs.Turns.{way_of, way_named}
use Rattle.full.proofs.cover.first_late.Goals as goal

pub loop-i-init : goal.loop-i-init
loop-i-init c =
    let o = c.args.times.now.opened in
    let vol = volume_of o.records.bytes.now in
    let edge = c.edge-edge.ensures in
    (omega arith, begins_first vol o.sound c.args.e _ _ c.requires.e_bound edge.first edge.pieces, first_start _ _)

pub first_slower-requires-clause-piece_known : goal.first_slower-requires-clause-piece_known
first_slower-requires-clause-piece_known c =
    let o = c.args.times.now.opened in
    let vol = volume_of o.records.bytes.now in
    let edge = c.edge-edge.ensures in
    let i = c.loop-i.i in
    piece_known vol o.sound c.args.e _ _ c.requires.e_bound edge.first edge.pieces i c.loop-i-test.true _ c.piece-piece.ensures.way

pub first_slower-requires-clause-from_le_end : goal.first_slower-requires-clause-from_le_end
first_slower-requires-clause-from_le_end c =
    let o = c.args.times.now.opened in
    let vol = volume_of o.records.bytes.now in
    let edge = c.edge-edge.ensures in
    let i = c.loop-i.i in
    piece_bounds vol o.sound c.args.e _ _ c.requires.e_bound edge.first edge.pieces i c.loop-i-test.true c.loop-i.x _ c.loop-i.invariant.1 c.piece_end-end.ensures

pub returns-in-Some : goal.returns-in-Some
returns-in-Some c =
    let o = c.args.times.now.opened in
    let vol = volume_of o.records.bytes.now in
    let edge = c.edge-edge.ensures in
    let i = c.loop-i.i in
    let q = way_of c.args.way in
    let late = c.in-Some.ensures in
    let bounds = piece_bounds vol o.sound c.args.e _ _ c.requires.e_bound edge.first edge.pieces i c.loop-i-test.true c.loop-i.x _ c.loop-i.invariant.1 c.piece_end-end.ensures in
    let named = ap (λ (p : Piece). first_from (not_after vol p q) c.loop-i.x c.piece_end-end.result) (sym (way_named _ _ _ c.piece-piece.ensures.way)) in (
      late_inside vol o.sound c.args.e _ _ c.requires.e_bound edge.first edge.pieces i c.loop-i-test.true c.loop-i.x _ c.loop-i.invariant.1 c.piece_end-end.ensures q _ _ _ refl refl (late.0 ∙ named) c.loop-i.invariant.2 late.1,
      omega (arith, late.1, bounds),
    )

pub loop-i-preserved : goal.loop-i-preserved
loop-i-preserved c =
    let o = c.args.times.now.opened in
    let vol = volume_of o.records.bytes.now in
    let edge = c.edge-edge.ensures in
    let i = c.loop-i.i in
    let q = way_of c.args.way in
    let named = ap (λ (p : Piece). first_from (not_after vol p q) c.loop-i.x c.piece_end-end.result) (sym (way_named _ _ _ c.piece-piece.ensures.way)) in (
      omega arith,
      begins_next vol o.sound c.args.e _ _ c.requires.e_bound edge.first edge.pieces i c.loop-i-test.true c.loop-i.x _ c.loop-i.invariant.1 c.piece_end-end.ensures,
      late_past vol o.sound c.args.e _ _ c.requires.e_bound edge.first edge.pieces i c.loop-i-test.true c.loop-i.x _ c.loop-i.invariant.1 c.piece_end-end.ensures q _ _ _ refl refl
          (sym c.in_default.ensures ∙ named) c.loop-i.invariant.2 (omega arith),
    )

pub returns : goal.returns
returns c =
    let o = c.args.times.now.opened in
    let vol = volume_of o.records.bytes.now in
    let edge = c.edge-edge.ensures in
    let i = c.loop-i.i in
    let over : c.edge-edge.result.pieces ≤ i = omega (arith, c.loop-i-test.false) in
    let never = late_never vol o.sound c.args.e _ _ c.requires.e_bound edge.first edge.pieces i c.loop-i.x (way_of c.args.way) over c.loop-i.invariant.1 c.loop-i.invariant.2 in
    sym never ∙ c.loop-i.invariant.1.over over
