use mathlib.Core.Path.{sym, ◌∙◌, ap}
use lib.Seq.{set-get_or}
use lib.ListN.{set}
use borrow.Author.Tests.{le-ltb, lt-ltb, eq-eqb, ne_eqb}
use Rattle.volume.specs.Repeats.{bears, stamped_on}
use Rattle.block.specs.Choose.{both_yes, both_no, choose_yes, choose_no}
use Rattle.volume.proofs.repeats.stamp_on.Goals as goal

pub returns-then-n-w : goal.returns-then-n-w
unfolding bears stamped_on
returns-then-n-w c =
    let far = le-ltb _ _ c.if-n-w.true in
    (sym (both_no _ far), sym (choose_no _ _ far))

pub returns-then-stamps-w : goal.returns-then-stamps-w
unfolding bears stamped_on
returns-then-stamps-w c =
    let a = c.args in
    let near = lt-ltb _ _ c.if-n-w.false in (
      sym (both_yes _ near ∙ eq-eqb _ _ c.if-stamps-w.true),
      sym (choose_yes _ _ near ∙ ap (set a.stamps.now a.w) (sym c.if-stamps-w.true) ∙ set-get_or a.stamps.now a.w 0),
    )

pub returns : goal.returns
unfolding bears stamped_on
returns c =
    let near = lt-ltb _ _ c.if-n-w.false in
    (sym (both_yes _ near ∙ ne_eqb _ _ c.if-stamps-w.false), sym (choose_yes _ _ near))
