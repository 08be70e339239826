use Rattle.std.proofs.Common.{arith}
use Rattle.block.specs.Word.{word_from}
use Rattle.block.proofs.word_from.Goals as goal

pub returns : goal.returns
unfolding word_from
returns c = omega (arith, c.from_le_bytes.ensures)
