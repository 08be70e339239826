use mathlib.Core.Bool.{Bool}
use mathlib.Core.Path.{sym, ◌∙◌, ap}
use lib.Dec.{ltb}
use borrow.Author.Tests.{eq-eqb, ne_eqb, lt-ltb, le-ltb}
use Rattle.rules.specs.EdgeSteps.{starts_at_zero}
use Rattle.rules.specs.Rules.{start_fits}
use Rattle.records.specs.Format.{day}
use Rattle.block.specs.Choose.{both, both_yes, both_no, choose_yes, choose_no}
use Rattle.rules.proofs.edges.start_fits.Goals as goal

pub returns-then-i-eq0 : goal.returns-then-i-eq0
unfolding start_fits
returns-then-i-eq0 c =
    let s = c.args.start in
    sym (ap (λ (t : Bool). both t (ltb s day)) (choose_yes _ _ (eq-eqb _ _ c.if-i-eq0.true)) ∙ starts_at_zero s)

pub returns-then-start-before : goal.returns-then-start-before
unfolding start_fits
returns-then-start-before c = sym (both_no _ (choose_no _ _ (ne_eqb _ _ c.if-i-eq0.false) ∙ le-ltb _ _ c.if-start-before.true))

pub returns : goal.returns
unfolding start_fits
returns c = sym (both_yes _ (choose_no _ _ (ne_eqb _ _ c.if-i-eq0.false) ∙ lt-ltb _ _ c.if-start-before.false))
