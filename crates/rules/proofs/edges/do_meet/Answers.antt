use mathlib.Core.Path.{sym, ◌∙◌}
use borrow.Author.Tests.{eq-eqb, ne_eqb, lt-ltb, le-ltb}
use Rattle.rules.specs.Rules.{meet}
use Rattle.block.specs.Choose.{both_yes, both_no}
use Rattle.rules.proofs.edges.do_meet.Goals as goal

pub returns-then-l-over-2 : goal.returns-then-l-over-2
unfolding meet
returns-then-l-over-2 c = sym (both_yes _ (eq-eqb _ _ c.if-l-over.true) ∙ both_yes _ (eq-eqb _ _ c.if-r-over.true) ∙ both_yes _ (eq-eqb _ _ c.if-l-r.true) ∙ both_yes _ (lt-ltb _ _ c.if-l-over-2.true))

pub returns-else-l-over-2 : goal.returns-else-l-over-2
unfolding meet
returns-else-l-over-2 c = le-ltb _ _ c.if-l-over-2.false ∙ sym (both_yes _ (eq-eqb _ _ c.if-l-over.true) ∙ both_yes _ (eq-eqb _ _ c.if-r-over.true) ∙ both_yes _ (eq-eqb _ _ c.if-l-r.true) ∙ both_no _ (le-ltb _ _ c.if-l-over-2.false))

pub returns-else-l-r : goal.returns-else-l-r
unfolding meet
returns-else-l-r c = ne_eqb _ _ c.if-l-r.false ∙ sym (both_yes _ (eq-eqb _ _ c.if-l-over.true) ∙ both_yes _ (eq-eqb _ _ c.if-r-over.true) ∙ both_no _ (ne_eqb _ _ c.if-l-r.false))

pub returns-else-r-over : goal.returns-else-r-over
unfolding meet
returns-else-r-over c = ne_eqb _ _ c.if-r-over.false ∙ sym (both_yes _ (eq-eqb _ _ c.if-l-over.true) ∙ both_no _ (ne_eqb _ _ c.if-r-over.false))

pub returns-else-l-over : goal.returns-else-l-over
unfolding meet
returns-else-l-over c = ne_eqb _ _ c.if-l-over.false ∙ sym (both_no _ (ne_eqb _ _ c.if-l-over.false))
