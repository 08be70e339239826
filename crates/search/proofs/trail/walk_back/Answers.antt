use Prim.Native.Nat.{◌+◌, ◌-◌}
use mathlib.Core.Path.{◌≡◌}
use native.Mathlib.Omega.{arith}
use Rattle.search.specs.Trail.{walk_home, walk_over, walk_turn, walk_edge}
use Rattle.search.proofs.trail.walk_back.Goals as goal
use Rattle.search.proofs.trail.walk_back.Goals.{then-arc-ne0, else-arc-ne0}

pub returns-then-s-query : goal.returns-then-s-query
returns-then-s-query c = walk_home c.loop-walked.invariant c.if-s-query.true

pub loop-walked-preserved : goal.loop-walked-preserved
loop-walked-preserved c =
    let k = c.arc_at-arc in
    let H = c.loop-walked.invariant in
    let left : c.args.used - (c.loop-walked._walked + 1) ≡ c.args.used - c.loop-walked._walked - 1 = omega arith in
    rw left
    (elim c.if-arc-ne0.branch [
      | then-arc-ne0 w ↦ rw (w.at-is, w.trail-is) (walk_edge H c.args.opened.now.sound c.args.opened.now.records.counts.junctions k.result _ c.requires.walkable k.ensures c.came_from-s.ensures (omega arith) c.if-s-query.false (k.result - 1) (omega (arith, w.if-arc-ne0.true)))
      | else-arc-ne0 w ↦ rw (w.at-is, w.trail-is) (walk_turn H c.args.opened.now.sound c.args.opened.now.records.counts.junctions k.result _ c.requires.walkable k.ensures c.came_from-s.ensures (omega arith) c.if-s-query.false w.if-arc-ne0.false)
    ])

pub returns : goal.returns
returns c = walk_over c.loop-walked.invariant (omega arith)
