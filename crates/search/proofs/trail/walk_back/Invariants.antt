use Prim.Native.Nat.{◌-◌}
use Rattle.records.specs.Format.{volume_of}
use Rattle.search.specs.Trail.{Walked}
use Rattle.search.proofs.trail.walk_back.Given as goal

abbrev pub invariant-loop-walked : goal.invariant-loop-walked
invariant-loop-walked l =
    Walked (volume_of l.opened.records.bytes.now) l.query.from l.query.to l.used l.work (l.used - l._walked) l.s l.at l.trail
