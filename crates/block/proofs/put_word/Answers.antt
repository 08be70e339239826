use Rattle.std.proofs.Common.{refl}
use Rattle.block.specs.Word.{put_word}
use Rattle.block.proofs.put_word.Goals as goal

pub returns : goal.returns
unfolding put_word
returns c = rw c.to_le_bytes.ensures refl
