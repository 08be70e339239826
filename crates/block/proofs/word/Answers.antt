use Rattle.std.proofs.Common.{rules}
use Rattle.block.specs.Word.{word_at}
use Rattle.block.proofs.word.Goals as goal

pub returns : goal.returns
unfolding word_at
returns c = search rules
