use Rattle.std.proofs.Common.{ap, sym, ◌∙◌, eq-eqb, ne_eqb, lt-ltb, le-ltb}
use Rattle.std.proofs.Math.Bool.{not}
use Rattle.block.specs.Choose.{both_yes, both_no}
use Rattle.rules.specs.Rules.{ends_fit}
use Rattle.rules.proofs.roads.ends_fit.Goals as goal

pub returns-then-from-n : goal.returns-then-from-n
unfolding ends_fit
returns-then-from-n c = sym (both_yes _ (ap not (ne_eqb _ _ c.if-from-to.true)) ∙ both_yes _ (lt-ltb _ _ c.if-from-n.true))

pub returns-else-from-n : goal.returns-else-from-n
unfolding ends_fit
returns-else-from-n c =
    le-ltb _ _ c.if-from-n.false
    ∙ sym (both_yes _ (ap not (ne_eqb _ _ c.if-from-to.true)) ∙ both_no _ (le-ltb _ _ c.if-from-n.false))

pub returns-else-from-to : goal.returns-else-from-to
unfolding ends_fit
returns-else-from-to c =
    let same = ap not (eq-eqb _ _ c.if-from-to.false) in same ∙ sym (both_no _ same)
