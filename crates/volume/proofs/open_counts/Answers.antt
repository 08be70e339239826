use mathlib.Core.Path.{refl, sym, ◌∙◌}
use native.Mathlib.Omega.{arith}
use borrow.Author.Tests.{eq-eqb, ne_eqb}
use Rattle.volume.specs.OpenSteps.{head_few, counted_of, laid_of, counts_rule_lem}
use Rattle.rules.specs.Rules.{fewest_blocks}
use Rattle.block.specs.Choose.{choose_yes, choose_no, both_yes, both_no}
use Rattle.volume.proofs.open_counts.Goals as goal

pub returns-then-not-head_fits : goal.returns-then-not-head_fits
returns-then-not-head_fits c =
    let h = c.head-counts.ensures in
    sym (choose_no _ _ (counts_rule_lem _ _ _ _ h refl ∙ both_no _ (sym c.head_fits.ensures ∙ c.if-not-head_fits.true)))

pub words_of-words-requires : goal.words_of-words-requires
words_of-words-requires c = head_few _ (sym c.head_fits.ensures ∙ c.if-not-head_fits.false)

pub overflow_add-words : goal.overflow_add-words
overflow_add-words c =
    let few = head_few _ (sym c.head_fits.ensures ∙ c.if-not-head_fits.false) in
    omega (arith, c.words_of-words.ensures)

pub returns-then-blocks-words : goal.returns-then-blocks-words
unfolding fewest_blocks
returns-then-blocks-words c =
    let h = c.head-counts.ensures in
    sym (choose_no _ _ (counts_rule_lem _ _ _ _ h c.words_of-words.ensures
    ∙ both_yes _ (sym c.head_fits.ensures ∙ c.if-not-head_fits.false)
    ∙ both_no _ (ne_eqb _ _ c.if-blocks-words.true)))

pub filler_zero-requires : goal.filler_zero-requires
filler_zero-requires c =
    let few = head_few _ (sym c.head_fits.ensures ∙ c.if-not-head_fits.false) in
    omega (arith, c.words_of-words.ensures, few.roads, few.points, few.edges, few.pieces)

pub returns-then-not-filler_zero : goal.returns-then-not-filler_zero
unfolding fewest_blocks
returns-then-not-filler_zero c =
    let h = c.head-counts.ensures in
    sym (choose_no _ _ (counts_rule_lem _ _ _ _ h c.words_of-words.ensures
    ∙ both_yes _ (sym c.head_fits.ensures ∙ c.if-not-head_fits.false)
    ∙ both_yes _ (eq-eqb _ _ c.if-blocks-words.false)
    ∙ sym c.filler_zero.ensures
    ∙ c.if-not-filler_zero.true))

pub tables_of-tables-requires : goal.tables_of-tables-requires
tables_of-tables-requires c = head_few _ (sym c.head_fits.ensures ∙ c.if-not-head_fits.false)

pub invariant_of-open_records : goal.invariant_of-open_records
invariant_of-open_records c =
    let h = c.head-counts.ensures in
    let w = c.words_of-words.ensures in
    let e = c.if-blocks-words.false in
    let few = head_few _ (sym c.head_fits.ensures ∙ c.if-not-head_fits.false) in
    record { counted = counted_of _ _ h; laid = laid_of _ _ _ h c.tables_of-tables.ensures (omega arith) few }

pub returns : goal.returns
unfolding fewest_blocks
returns c =
    let h = c.head-counts.ensures in
    c.open_records.ensures
    ∙ sym (choose_yes _ _ (counts_rule_lem _ _ _ _ h c.words_of-words.ensures
    ∙ both_yes _ (sym c.head_fits.ensures ∙ c.if-not-head_fits.false)
    ∙ both_yes _ (eq-eqb _ _ c.if-blocks-words.false)
    ∙ sym c.filler_zero.ensures
    ∙ c.if-not-filler_zero.false))

pub open_records-requires : goal.open_records-requires
open_records-requires c = head_few _ (sym c.head_fits.ensures ∙ c.if-not-head_fits.false)
