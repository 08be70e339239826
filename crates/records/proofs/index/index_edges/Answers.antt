use Rattle.std.proofs.Common.{◌≡◌, ℕ, ◌-◌, ◌≤◌, ◌++◌, length, List, take, drop, replicate, refl, arith, length-set, length-append, length-drop, length-take}
use Rattle.records.specs.Format.{volume_of}
use Rattle.records.specs.Index.{filled, index_none, index_filled, index_one, index_over}
use Rattle.records.proofs.index.index_edges.Goals as goal

-- a part of a list, overwritten with a number from its start on
filled_by : (l part : List ℕ) (n x : ℕ) → n ≤ length l → part ≡ replicate (length (take n l)) x → part ++ drop n l ≡ filled l n x
filled_by l part n x h e =
    let room : length (take n l) ≡ n = omega (arith, length-take n l) in
    rw (e, room) refl

pub loop-e-init : goal.loop-e-init
loop-e-init c =
    let r = c.args.r.now in
    let n = r.counts.junctions in
    let f = filled_by c.args.first.now _ n r.counts.edges c.requires.junctions_in_bounds.0 (c.fill.ensures.after (λ y e. e)) in (
      omega (arith, r.counted.edges),
      index_none (volume_of r.bytes.now) c.args.first.now _ c.args.next.now _ _ r.counted.junctions r.counted.edges f,
      simp (length-append, length-drop) (omega (arith, c.fill.ensures.len, length-take n c.args.first.now, c.requires.junctions_in_bounds.0, r.counted.junctions)),
      omega (arith, r.counted.edges, c.requires.junctions_in_bounds.1),
    )

pub loop-e-preserved-then-from-n : goal.loop-e-preserved-then-from-n
loop-e-preserved-then-from-n c =
    let r = c.args.r.now in
    let e = c.loop-e.e in
    let edge = c.edge-from in (
      omega arith,
      index_one (volume_of r.bytes.now) _ _ c.loop-e.first c.loop-e.next e (e - 1) edge.result.from (omega arith) edge.ensures.from (omega arith) c.loop-e.invariant.1
          (omega (arith, r.counted.junctions)) c.loop-e.invariant.2 c.loop-e.invariant.3,
      rw length-set c.loop-e.invariant.2,
      rw length-set c.loop-e.invariant.3,
    )

pub loop-e-preserved : goal.loop-e-preserved
loop-e-preserved c =
    let r = c.args.r.now in
    let e = c.loop-e.e in
    let edge = c.edge-from in (
      omega arith,
      index_over (volume_of r.bytes.now) _ _ c.loop-e.first c.loop-e.next e (e - 1) edge.result.from (omega arith) edge.ensures.from (omega arith) c.loop-e.invariant.1
          (omega (arith, r.counted.junctions)),
      c.loop-e.invariant.2,
      c.loop-e.invariant.3,
    )

pub returns : goal.returns
returns c =
    let r = c.args.r.now in
    let n = r.counts.junctions in
    let x = r.counts.edges in
    let f = filled_by c.args.first.now _ n x c.requires.junctions_in_bounds.0 (c.fill.ensures.after (λ y e. e)) in
    let done : c.loop-e.e ≡ 0 = omega arith in
    index_filled (volume_of r.bytes.now) c.args.first.now c.args.next.now c.loop-e.first c.loop-e.next n x 0 r.counted.junctions c.requires.junctions_in_bounds.0
    (rw (f, done) at c.loop-e.invariant.1)
