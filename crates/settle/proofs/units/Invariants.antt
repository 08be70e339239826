use Prim.Native.Nat.{◌+◌, ◌-◌}
use Rattle.settle.specs.Chain.{Chained}
use Rattle.settle.specs.Units.{Onward}
use Rattle.records.specs.Format.{volume_of}
use Rattle.settle.proofs.units.Given as goal

abbrev pub invariant-loop-arrival : goal.invariant-loop-arrival
invariant-loop-arrival l = record {
  onward : Onward (volume_of l.ground.map.times.opened.records.bytes.now) l.query.from l.query.to l.query.departure l.query.budget l.fn.work l.used l.work;
  chained : Chained (l.n + l.n) l.work l.head;
}

abbrev pub decreases-loop-arrival : goal.decreases-loop-arrival
decreases-loop-arrival l = l.query.budget - l.used
