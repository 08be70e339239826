use Prim.Native.Nat.{ℕ, ◌+◌}
use mathlib.Core.Path.{refl, ◌∙◌, ap}
use native.Mathlib.Omega.{arith}
use Rattle.settle.specs.Edges.{on_walk}
use Rattle.settle.specs.Walk.{turn_offered, walk_begins, walk_more, walk_ends}
use Rattle.settle.specs.Arcs.{place_of, place_below}
use Rattle.records.specs.Index.{found_place, found_within, walk_on}
use Rattle.records.specs.Format.{volume_of}
use Rattle.settle.proofs.arcs.offer_arcs.Goals as goal

pub first-at-requires : goal.first-at-requires
first-at-requires c =
    let R = c.args.ground.now.map.times.opened.records in
    let below = place_below R.counts.junctions c.args.s c.requires.s_bound in
    omega (arith, c.place-u.ensures, R.counted.junctions)

pub loop-at-init : goal.loop-at-init
loop-at-init c =
    let p = c.place-u in
    let vol = volume_of c.args.ground.now.map.times.opened.records.bytes.now in
    let R = c.args.ground.now.map.times.opened.records in
    let u = p.result in
    let found = c.first-at.ensures in
    let is = found_place _ _ _ found in (
      found_within _ _ _ found,
      on_walk vol u 0 _ (omega arith) is,
      refl,
      λ d m L q. walk_begins vol d c.args.s c.args.arrival u (p.ensures ∙ ap (λ (n : ℕ). place_of n c.args.s) R.counted.junctions) L _ _ q is,
      λ C. C,
    )

pub loop-at-smaller : goal.loop-at-smaller
loop-at-smaller c =
    let vol = volume_of c.args.ground.now.map.times.opened.records.bytes.now in
    let at = rw c.in-Some.is at c.loop-at.invariant in
    let on = walk_on vol c.place-u.result c.in-Some.e _ at.0 (at.1.begins at.0) c.next-at.ensures in
    rw c.in-Some.is on.nearer

pub loop-at-preserved : goal.loop-at-preserved
loop-at-preserved c =
    let vol = volume_of c.args.ground.now.map.times.opened.records.bytes.now in
    let p = c.place-u in
    let R = c.args.ground.now.map.times.opened.records in
    let e = c.in-Some.e in
    let at = rw c.in-Some.is at c.loop-at.invariant in
    let on = walk_on vol p.result e _ at.0 (at.1.begins at.0) c.next-at.ensures in
    let one = c.offer_edge-front in (
      on.within,
      on_walk vol p.result (e + 1) _ (omega arith) on.place,
      omega (arith, one.auto.work, at.2),
      λ d m L q. walk_more vol d c.args.s c.args.arrival p.result (p.ensures ∙ ap (λ (n : ℕ). place_of n c.args.s) R.counted.junctions) L _ e _ c.loop-at.work _ at.0 on.place (at.3 d m L q) (one.ensures.does d m),
      λ C. one.ensures.rechained (at.4 C),
    )

pub returns-clause-does : goal.returns-clause-does
returns-clause-does c =
    let vol = volume_of c.args.ground.now.map.times.opened.records.bytes.now in
    let R = c.args.ground.now.map.times.opened.records in
    let t = c.offer_turn-front in
    let at = rw c.in_default.is at c.loop-at.invariant in
    λ d m. walk_ends vol d c.args.s c.args.arrival vol.edges c.args.work.now _ _ refl
    (turn_offered vol d c.args.s c.args.arrival R.counts.junctions c.args.head c.args.ground.now.marks.now c.args.work.now _ R.counted.junctions c.requires.arrival_bound.1 m t.ensures.work_after)
    (at.3 d m)
