use Rattle.std.proofs.Common.{◌≡◌, ◌+◌, ◌*◌, ◌/◌, ◌%◌, ap, ◌∙◌, arith}
use Rattle.block.specs.Word.{word_from, word_at, block_word, content_at}
use Rattle.block.proofs.content.Goals as goal

pub returns : goal.returns
unfolding content_at block_word word_at
returns c =
    let a = c.args in
    let k = c.block_of in
    let e : 4 * a.w + 8 * k.result ≡ 4 * (128 * (a.w / 126) + a.w % 126) = omega (arith, k.ensures) in
    c.word_from.ensures ∙ ap (word_from a.v.now) e
