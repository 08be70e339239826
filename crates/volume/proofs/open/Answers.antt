use mathlib.Core.Path.{refl, sym, ◌∙◌}
use native.Mathlib.Omega.{arith}
use Rattle.volume.specs.Open.{open_length, open_block, open_edition, open_rest}
use Rattle.records.specs.Format.{volume_of}
use Rattle.block.specs.Whole.{whole_fact}
use Rattle.volume.proofs.open.Goals as goal

pub returns-then-not-is_whole : goal.returns-then-not-is_whole
returns-then-not-is_whole c = sym (open_length _ (sym c.is_whole.ensures ∙ c.if-not-is_whole.true))

pub first_bad-requires : goal.first_bad-requires
first_bad-requires c =
    let w = whole_fact _ (sym c.is_whole.ensures ∙ c.if-not-is_whole.false) in omega arith

pub returns-in-Some : goal.returns-in-Some
returns-in-Some c =
    let w = sym c.is_whole.ensures ∙ c.if-not-is_whole.false in
    let f = c.in-Some.ensures in
    sym (open_block c.args.v.now w _ f.0 (λ z. omega (arith, f.1)))

pub content-edition-requires : goal.content-edition-requires
content-edition-requires c =
    let w = whole_fact _ (sym c.is_whole.ensures ∙ c.if-not-is_whole.false) in omega arith

pub returns-then-edition-ne1 : goal.returns-then-edition-ne1
unfolding volume_of
returns-then-edition-ne1 c =
    let w = sym c.is_whole.ensures ∙ c.if-not-is_whole.false in
    sym (open_edition c.args.v.now w _ refl c.in_default.ensures _ c.content-edition.ensures c.if-edition-ne1.true)

pub open_counts-requires : goal.open_counts-requires
open_counts-requires c =
    let w = whole_fact _ (sym c.is_whole.ensures ∙ c.if-not-is_whole.false) in
    omega arith

pub returns : goal.returns
unfolding volume_of
returns c =
    let w = sym c.is_whole.ensures ∙ c.if-not-is_whole.false in
    c.open_counts.ensures
    ∙ sym (open_rest c.args.v.now w _ refl c.in_default.ensures _ c.content-edition.ensures c.if-edition-ne1.false)
