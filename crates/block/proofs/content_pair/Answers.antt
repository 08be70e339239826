use Rattle.std.proofs.Common.{◌≡◌, ℕ, ◌+◌, ◌*◌, ◌/◌, ◌%◌, ap, ◌∙◌, arith}
use Rattle.block.specs.Word.{word_from, word_at, block_word, content_at}
use Rattle.block.proofs.content_pair.Goals as goal

-- behind an even content word stands the next one
next : (w : ℕ) → w % 2 ≡ 0 → 128 * (w / 126) + w % 126 + 1 ≡ 128 * ((w + 1) / 126) + (w + 1) % 126
next w even = omega arith

pub returns : goal.returns
unfolding content_at block_word word_at
returns c =
    let v = c.args.v.now in
    let w = c.args.w in
    let k = c.block_of in
    let e : 4 * w + 8 * k.result ≡ 4 * (128 * (w / 126) + w % 126) = omega (arith, k.ensures) in
    let f : 4 * w + 8 * k.result + 4 ≡ 4 * (128 * ((w + 1) / 126) + (w + 1) % 126) = omega (arith, e, next w c.requires.0) in
    (c.word_from.ensures ∙ ap (word_from v) e, c.word_from-2.ensures ∙ ap (word_from v) f)
