use native.Mathlib.Omega.{arith}
use Rattle.travel.specs.Row.{middle_held, narrowed_upper, narrowed_lower, narrowed_one}
use Rattle.travel.proofs.last.last_at.Goals as goal
use Rattle.travel.proofs.last.last_at.Goals.{then-content-x, else-content-x}

pub content-requires : goal.content-requires
content-requires c =
    middle_held c.requires c.loop-rest.invariant c.loop-rest-test.true

pub loop-rest-preserved : goal.loop-rest-preserved
loop-rest-preserved c =
    let t = c.loop-rest-test.true in
    let e = c.content.ensures in
    elim c.if-content-x.branch [
      | then-content-x r ↦ rw r.w-is (narrowed_upper c.requires c.loop-rest.invariant t (omega (arith, e, r.if-content-x.true)))
      | else-content-x r ↦ rw r.w-is (narrowed_lower c.requires c.loop-rest.invariant t (omega (arith, e, r.if-content-x.false)))
    ]

pub returns : goal.returns
returns c =
    narrowed_one c.requires c.loop-rest.invariant c.loop-rest-test.false
