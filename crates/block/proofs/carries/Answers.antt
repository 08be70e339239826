use Rattle.std.proofs.Common.{sym, ◌∙◌, ne_eqb}
use Rattle.block.specs.Word.{block_word}
use Rattle.block.specs.Good.{a_differs, b_decides}
use Rattle.block.proofs.carries.Goals as goal

pub returns-then-s-word : goal.returns-then-s-word
unfolding block_word
returns-then-s-word c =
    b_decides c.args.v.now c.args.k c.args.s c.requires.summed _ _ c.word.ensures c.if-s-word.true c.word-then-s-word.ensures

pub returns-else-s-word : goal.returns-else-s-word
unfolding block_word
returns-else-s-word c =
    ne_eqb _ _ c.if-s-word.false
    ∙ sym (a_differs c.args.v.now c.args.k c.args.s c.requires.summed _ 0 c.word.ensures c.if-s-word.false)
