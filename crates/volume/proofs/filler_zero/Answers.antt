use Prim.Native.Nat.{◌*◌, ◌-◌}
use mathlib.Core.Path.{sym, ◌∙◌}
use borrow.Author.Tests.{eq-eqb, ne_eqb}
use borrow.Author.Rules.{rules}
use Rattle.rules.specs.Rules.{filler_zero}
use Rattle.block.specs.First.{first_go, all_stop, all_end}
use Rattle.volume.proofs.filler_zero.Invariants.{zeroAt}
use Rattle.volume.proofs.filler_zero.Goals as goal

pub returns-then-content-ne0 : goal.returns-then-content-ne0
unfolding filler_zero
returns-then-content-ne0 c =
    let a = c.args in
    sym (all_stop (zeroAt a.v.now a.words) (126 * a.blocks - a.words) c.loop-i.i (search rules) (ne_eqb _ _ (λ z. c.if-content-ne0.true (c.content.ensures ∙ z))) c.loop-i.invariant)

pub loop-i-preserved : goal.loop-i-preserved
loop-i-preserved c =
    let a = c.args in
    first_go (zeroAt a.v.now a.words) (126 * a.blocks - a.words) c.loop-i.i (search rules) (eq-eqb _ _ (sym c.content.ensures ∙ c.if-content-ne0.false)) c.loop-i.invariant

pub returns : goal.returns
unfolding filler_zero
returns c =
    let a = c.args in
    sym (all_end (zeroAt a.v.now a.words) (126 * a.blocks - a.words) c.loop-i.i (search rules) (search rules) c.loop-i.invariant)
