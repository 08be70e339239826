use mathlib.Core.Path.{ap, sym}
use Rattle.exports.specs.Numbers.{timing_told}
use Rattle.exports.specs.Told.{tells_as}
use Rattle.exports.proofs.tell_time.Goals as goal

pub returns-in-Ok : goal.returns-in-Ok
returns-in-Ok c = tells_as _ _ _ _ _ (ap timing_told (sym c.in-Ok.is)) c.requires c.tell.ensures

pub returns-in-Err : goal.returns-in-Err
returns-in-Err c = tells_as _ _ _ _ _ (ap timing_told (sym c.in-Err.is)) c.requires c.refuse.ensures
