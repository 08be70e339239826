use borrow.Author.Rules.{rules}
use Rattle.records.specs.Format.{volume_of}
use Rattle.records.proofs.readers.edge_pieces.Goals as goal

pub returns : goal.returns
unfolding volume_of
returns c = ((cc), search rules)
