use Rattle.std.proofs.Common.{sym, ◌∙◌, arith}
use Rattle.records.specs.Format.{volume_of, period_is}
use Rattle.full.specs.Parts.{end_next, end_last}
use Rattle.full.proofs.cover.piece_end.Goals as goal

pub returns-then-i-n : goal.returns-then-i-n
returns-then-i-n c =
    let a = c.args in
    c.piece.ensures.start ∙ sym (end_next (volume_of a.r.now.bytes.now) a.first a.n a.i c.if-i-n.true)

pub returns : goal.returns
returns c =
    let a = c.args in
    let v = a.r.now.bytes.now in
    sym (end_last (volume_of v) a.first a.n a.i (omega (arith, c.if-i-n.false)) ∙ period_is v)
