use Rattle.travel.specs.Row.{Narrowed}
use Rattle.travel.proofs.last.last_at.Given as goal

abbrev pub invariant-loop-rest : goal.invariant-loop-rest
invariant-loop-rest l = Narrowed l.v l.base l.stride l.n l.x l.w l.rest

abbrev pub decreases-loop-rest : goal.decreases-loop-rest
decreases-loop-rest l = l.rest
