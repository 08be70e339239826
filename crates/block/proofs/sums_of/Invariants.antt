use Rattle.block.specs.Lanes.{LaneTo}
use Rattle.block.proofs.sums_of.Given as goal

abbrev pub invariant-loop-i : goal.invariant-loop-i
invariant-loop-i l = LaneTo l.v l.k 0 l.i l.l0 × LaneTo l.v l.k 1 l.i l.l1 × LaneTo l.v l.k 2 l.i l.l2 × LaneTo l.v l.k 3 l.i l.l3
