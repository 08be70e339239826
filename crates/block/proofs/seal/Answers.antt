use Rattle.std.proofs.Common.{sym, ◌∙◌, arith}
use Rattle.block.specs.Seal.{sealed_yes, sealed_no, sealing_yes, sealing_no}
use Rattle.block.specs.Whole.{whole_fact}
use Rattle.block.proofs.seal.Goals as goal

pub seal_blocks-requires : goal.seal_blocks-requires
seal_blocks-requires c =
    let w = whole_fact _ (sym c.is_whole.ensures ∙ c.if-is_whole.true) in
    omega arith

pub returns-then-is_whole : goal.returns-then-is_whole
returns-then-is_whole c =
    let w = sym c.is_whole.ensures ∙ c.if-is_whole.true in
    (sym (sealing_yes _ w), c.seal_blocks.ensures ∙ sym (sealed_yes _ w))

pub returns : goal.returns
returns c =
    let w = sym c.is_whole.ensures ∙ c.if-is_whole.false in
    (sym (sealing_no _ w), sym (sealed_no _ w))
