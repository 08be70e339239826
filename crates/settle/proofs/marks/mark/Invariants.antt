use Rattle.settle.specs.Marked.{Marks}
use Rattle.records.specs.Format.{volume_of}
use Rattle.settle.proofs.marks.mark.Given as goal

abbrev pub invariant-loop-u : goal.invariant-loop-u
invariant-loop-u l = Marks (volume_of l.index.records.bytes.now) l.to l.u l.initial.marks l.marks
