use mathlib.Core.Path.{sym, ◌∙◌}
use borrow.Author.Tests.{le-leb, lt-leb, lt-ltb, le-ltb}
use Rattle.rules.specs.Rules.{point_fits}
use Rattle.block.specs.Choose.{both_yes, both_no}
use Rattle.rules.proofs.roads.point_fits.Goals as goal

pub returns-then-t0-t1 : goal.returns-then-t0-t1
unfolding point_fits
returns-then-t0-t1 c = sym (both_yes _ (lt-ltb _ _ c.if-t0-lt-PERIOD.true) ∙ both_yes _ (le-leb _ _ c.if-f0-ge1.true) ∙ both_yes _ (le-leb _ _ c.if-f0-le-LONGEST.true) ∙ both_yes _ (lt-ltb _ _ c.if-t0-t1.true))

pub returns-else-t0-t1 : goal.returns-else-t0-t1
unfolding point_fits
returns-else-t0-t1 c = le-ltb _ _ c.if-t0-t1.false ∙ sym (both_yes _ (lt-ltb _ _ c.if-t0-lt-PERIOD.true) ∙ both_yes _ (le-leb _ _ c.if-f0-ge1.true) ∙ both_yes _ (le-leb _ _ c.if-f0-le-LONGEST.true) ∙ both_no _ (le-ltb _ _ c.if-t0-t1.false))

pub returns-else-f0-le-LONGEST : goal.returns-else-f0-le-LONGEST
unfolding point_fits
returns-else-f0-le-LONGEST c = lt-leb _ _ c.if-f0-le-LONGEST.false ∙ sym (both_yes _ (lt-ltb _ _ c.if-t0-lt-PERIOD.true) ∙ both_yes _ (le-leb _ _ c.if-f0-ge1.true) ∙ both_no _ (lt-leb _ _ c.if-f0-le-LONGEST.false))

pub returns-else-f0-ge1 : goal.returns-else-f0-ge1
unfolding point_fits
returns-else-f0-ge1 c = lt-leb _ _ c.if-f0-ge1.false ∙ sym (both_yes _ (lt-ltb _ _ c.if-t0-lt-PERIOD.true) ∙ both_no _ (lt-leb _ _ c.if-f0-ge1.false))

pub returns-else-t0-lt-PERIOD : goal.returns-else-t0-lt-PERIOD
unfolding point_fits
returns-else-t0-lt-PERIOD c = le-ltb _ _ c.if-t0-lt-PERIOD.false ∙ sym (both_no _ (le-ltb _ _ c.if-t0-lt-PERIOD.false))
