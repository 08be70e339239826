use mathlib.Core.Path.{refl}
use Rattle.exports.specs.Told.{with_first}
use Rattle.exports.proofs.tell.tell.Goals as goal

pub returns : goal.returns
unfolding with_first
returns c = (refl, rw c.copy_from_slice.ensures.after refl)
