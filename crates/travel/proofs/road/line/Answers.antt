use mathlib.Core.Path.{refl}
use Rattle.travel.specs.Road.{between}
use Rattle.travel.proofs.road.line.Goals as goal

pub returns : goal.returns
unfolding between
returns c = refl
