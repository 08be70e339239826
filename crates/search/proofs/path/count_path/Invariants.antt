use Rattle.records.specs.Format.{volume_of}
use Rattle.search.specs.Path.{Driven}
use Rattle.search.proofs.path.count_path.Given as goal

abbrev pub invariant-loop-e : goal.invariant-loop-e
invariant-loop-e l = Driven (volume_of l.opened.records.bytes.now) l.trail l.x l.e-index l.y l.n
