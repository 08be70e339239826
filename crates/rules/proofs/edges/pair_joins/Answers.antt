use mathlib.Core.Path.{sym, ◌∙◌}
use borrow.Author.Tests.{lt-ltb, le-ltb}
use Rattle.rules.specs.Rules.{pair_joins}
use Rattle.block.specs.Choose.{both_yes, both_no}
use Rattle.rules.proofs.edges.pair_joins.Goals as goal

pub returns-then-passed-l : goal.returns-then-passed-l
unfolding pair_joins
returns-then-passed-l c = sym (both_no _ (le-ltb _ _ c.if-passed-l.true))

pub returns-then-passed-r : goal.returns-then-passed-r
unfolding pair_joins
returns-then-passed-r c = sym (both_yes _ (lt-ltb _ _ c.if-passed-l.false) ∙ both_no _ (le-ltb _ _ c.if-passed-r.true))

pub returns : goal.returns
unfolding pair_joins
returns c =
    let l = c.if-passed-l.false in
    let r = c.if-passed-r.false in
    let left = c.ends.ensures in
    let right = c.ends-2.ensures in
    rw (← left.from_value.0, ← left.to_value.0, ← right.from_value.0, ← right.to_value.0) (c.do_meet.ensures ∙ sym (both_yes _ (lt-ltb _ _ l) ∙ both_yes _ (lt-ltb _ _ r)))
