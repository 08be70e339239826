use mathlib.Core.Path.{◌≡◌}
use lib.ListN.{take}
use Rattle.records.specs.Format.{volume_of}
use Rattle.travel.specs.Written.{with_roads}
use Rattle.search.specs.Path.{Driven, path_of}
use Rattle.search.proofs.path.write_path.Given as goal

abbrev pub invariant-loop-e : goal.invariant-loop-e
invariant-loop-e l =
    Driven (volume_of l.opened.records.bytes.now) l.trail l.x l.e-index l.y l.n × (l.path ≡ with_roads (path_of (volume_of l.opened.records.bytes.now) (take l.e-index l.trail) l.x) l.initial.path)
