use Rattle.std.proofs.Common.{rules}
use Rattle.records.specs.Format.{volume_of}
use Rattle.records.proofs.readers.Records.piece.Goals as goal

pub returns : goal.returns
unfolding volume_of
returns c =
    record {
      start = (cc);
      start_fits = search rules;
      way = rw (c.piece_left.ensures.0, c.piece_right.ensures.0) at c.way.ensures;
    }
