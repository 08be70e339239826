use mathlib.Core.Path.{sym, ◌∙◌}
use borrow.Author.Tests.{le-leb, lt-leb, eq-eqb, ne_eqb}
use Rattle.rules.specs.Rules.{placed}
use Rattle.block.specs.Choose.{both_yes, both_no}
use Rattle.rules.proofs.roads.is_placed.Goals as goal

pub returns-then-first-begin : goal.returns-then-first-begin
unfolding placed
returns-then-first-begin c = sym (both_yes _ (le-leb _ _ c.if-number-ge1.true) ∙ both_yes _ (eq-eqb _ _ c.if-first-begin.true))

pub returns-else-first-begin : goal.returns-else-first-begin
unfolding placed
returns-else-first-begin c = ne_eqb _ _ c.if-first-begin.false ∙ sym (both_yes _ (le-leb _ _ c.if-number-ge1.true) ∙ both_no _ (ne_eqb _ _ c.if-first-begin.false))

pub returns-else-number-ge1 : goal.returns-else-number-ge1
unfolding placed
returns-else-number-ge1 c = lt-leb _ _ c.if-number-ge1.false ∙ sym (both_no _ (lt-leb _ _ c.if-number-ge1.false))
