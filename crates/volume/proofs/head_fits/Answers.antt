use mathlib.Core.Path.{sym, ◌∙◌}
use borrow.Author.Tests.{le-leb, lt-leb}
use Rattle.rules.specs.Rules.{head_fits}
use Rattle.block.specs.Choose.{both_yes, both_no}
use Rattle.volume.proofs.head_fits.Goals as goal

pub returns-then-c-le16384 : goal.returns-then-c-le16384
unfolding head_fits
returns-then-c-le16384 c = sym (both_yes _ (le-leb _ _ c.if-c-ge1.true) ∙ both_yes _ (le-leb _ _ c.if-c-le1024.true) ∙ both_yes _ (le-leb _ _ c.if-c-le4096.true) ∙ both_yes _ (le-leb _ _ c.if-c-le65535.true) ∙ both_yes _ (le-leb _ _ c.if-c-le16384.true))

pub returns-else-c-le16384 : goal.returns-else-c-le16384
unfolding head_fits
returns-else-c-le16384 c = lt-leb _ _ c.if-c-le16384.false ∙ sym (both_yes _ (le-leb _ _ c.if-c-ge1.true) ∙ both_yes _ (le-leb _ _ c.if-c-le1024.true) ∙ both_yes _ (le-leb _ _ c.if-c-le4096.true) ∙ both_yes _ (le-leb _ _ c.if-c-le65535.true) ∙ both_no _ (lt-leb _ _ c.if-c-le16384.false))

pub returns-else-c-le65535 : goal.returns-else-c-le65535
unfolding head_fits
returns-else-c-le65535 c = lt-leb _ _ c.if-c-le65535.false ∙ sym (both_yes _ (le-leb _ _ c.if-c-ge1.true) ∙ both_yes _ (le-leb _ _ c.if-c-le1024.true) ∙ both_yes _ (le-leb _ _ c.if-c-le4096.true) ∙ both_no _ (lt-leb _ _ c.if-c-le65535.false))

pub returns-else-c-le4096 : goal.returns-else-c-le4096
unfolding head_fits
returns-else-c-le4096 c = lt-leb _ _ c.if-c-le4096.false ∙ sym (both_yes _ (le-leb _ _ c.if-c-ge1.true) ∙ both_yes _ (le-leb _ _ c.if-c-le1024.true) ∙ both_no _ (lt-leb _ _ c.if-c-le4096.false))

pub returns-else-c-le1024 : goal.returns-else-c-le1024
unfolding head_fits
returns-else-c-le1024 c = lt-leb _ _ c.if-c-le1024.false ∙ sym (both_yes _ (le-leb _ _ c.if-c-ge1.true) ∙ both_no _ (lt-leb _ _ c.if-c-le1024.false))

pub returns-else-c-ge1 : goal.returns-else-c-ge1
unfolding head_fits
returns-else-c-ge1 c = lt-leb _ _ c.if-c-ge1.false ∙ sym (both_no _ (lt-leb _ _ c.if-c-ge1.false))
