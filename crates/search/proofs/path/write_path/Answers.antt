use Prim.Native.Nat.{ℕ, ◌<◌}
use mathlib.Core.Path.{refl, ap, sym, ◌∙◌}
use mathlib.Core.List.{List}
use native.Mathlib.Omega.{arith}
use lib.ListN.{get_or, take, length}
use Rattle.records.specs.Format.{volume_of}
use Rattle.theory.specs.Unfold.{path_along}
use Rattle.travel.specs.Network.{roads_of}
use Rattle.travel.specs.Written.{with_roads, room_after, two_written}
use Rattle.search.specs.Path.{path_of, drive_none, roads_more, roads_within, drive_more, drive_fits}
use Rattle.search.proofs.path.write_path.Goals as goal

pub loop-e-init : goal.loop-e-init
unfolding path_along
loop-e-init c =
    (drive_none (volume_of c.args.opened.now.records.bytes.now) c.args.trail.now c.args.x, refl)

pub unfold_edge-u-requires-clause-x_in_bounds : goal.unfold_edge-u-requires-clause-x_in_bounds
unfold_edge-u-requires-clause-x_in_bounds c =
    let e = get_or c.args.trail.now c.loop-e.e-index 0 in
    let more : c.loop-e.e-index < length c.args.trail.now = omega arith in
    let within = roads_within c.args.opened.now.sound c.requires.chain c.loop-e.invariant.0 more e refl in
    room_after (path_of (volume_of c.args.opened.now.records.bytes.now) (take c.loop-e.e-index c.args.trail.now) c.args.x) (roads_of (volume_of c.args.opened.now.records.bytes.now) e c.loop-e.y) c.args.path.now c.loop-e.path c.loop-e.n c.loop-e.invariant.0.number c.loop-e.invariant.1 (omega (arith, within, c.requires.x_in_bounds))

pub overflow_add-y : goal.overflow_add-y
overflow_add-y c =
    omega (arith, (drive_fits c.args.opened.now.sound c.requires.chain c.loop-e.invariant.0 (omega arith) _ refl _ c.unfold_edge-u.ensures.unfolds).0)

pub loop-e-preserved : goal.loop-e-preserved
loop-e-preserved c =
    let vol = volume_of c.args.opened.now.records.bytes.now in
    let e = get_or c.args.trail.now c.loop-e.e-index 0 in
    let more : c.loop-e.e-index < length c.args.trail.now = omega arith in
    let u = c.unfold_edge-u in
    let whole = two_written (path_of vol (take c.loop-e.e-index c.args.trail.now) c.args.x) (roads_of vol e c.loop-e.y) c.args.path.now c.loop-e.path c.loop-e.n c.loop-e.invariant.0.number c.loop-e.invariant.1 _ u.ensures.path_after in (
      drive_more c.args.opened.now.sound c.requires.chain c.loop-e.invariant.0 more e refl _ u.ensures.unfolds,
      whole ∙ ap (λ (ks : List ℕ). with_roads ks c.args.path.now) (sym (roads_more c.args.opened.now.sound c.requires.chain c.loop-e.invariant.0 more e refl)),
    )
