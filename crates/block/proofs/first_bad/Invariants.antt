use Rattle.block.specs.First.{Passed}
use Rattle.block.specs.Good.{good}
use Rattle.block.proofs.first_bad.Given as goal

abbrev pub invariant-loop-k : goal.invariant-loop-k
invariant-loop-k l = Passed (good l.v) l.n l.k
