use Rattle.std.proofs.Common.{◌≡◌, length}
use Rattle.records.specs.Format.{volume_of}
use Rattle.volume.specs.Repeats.{Stamped, LeastBelow}
use Rattle.volume.proofs.repeats.first_repeat.Given as goal

abbrev pub invariant-loop-u : goal.invariant-loop-u
invariant-loop-u l =
    LeastBelow (volume_of l.index.records.bytes.now) l.u l.least
    × Stamped l.index.records.counts.junctions l.u l.stamps
    × (length l.stamps ≡ length l.initial.stamps)
