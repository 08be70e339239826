use Rattle.settle.specs.Scan.{Scanned, steps}
use Rattle.settle.proofs.seen.least_waiting.Given as goal

abbrev pub invariant-loop-t : goal.invariant-loop-t
invariant-loop-t l = Scanned l.states l.work l.head l.best l.before l.t

abbrev pub decreases-loop-t : goal.decreases-loop-t
decreases-loop-t l = steps l.states l.states l.work l.t
