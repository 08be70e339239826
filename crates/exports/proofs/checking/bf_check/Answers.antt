use mathlib.Core.Path.{ap, sym, ◌∙◌}
use borrow.Author.Rules.{rules}
use Rattle.exports.specs.Numbers.{verdict_told}
use Rattle.exports.specs.Told.{tells_as, tells_not}
use Rattle.exports.proofs.checking.bf_check.Goals as goal

pub returns-then-out-lt8 : goal.returns-then-out-lt8
returns-then-out-lt8 c = tells_not _ _ c.if-out-lt8.true

pub returns-in-Ok : goal.returns-in-Ok
returns-in-Ok c =
    tells_as _ _ _ _ _ (ap verdict_told (sym c.in-Ok.is ∙ c.check.ensures)) (search rules) c.tell_found.ensures

pub returns-in-Err : goal.returns-in-Err
returns-in-Err c =
    tells_as _ _ _ _ _ (ap verdict_told (sym c.in-Err.is ∙ c.check.ensures)) (search rules) c.refuse.ensures
