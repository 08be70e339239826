use Rattle.std.proofs.Common.{rules}
use Rattle.records.specs.Format.{volume_of}
use Rattle.records.proofs.readers.Records.edge.Goals as goal

pub returns : goal.returns
unfolding volume_of
returns c =
    let L = c.args.self.now.laid.edges in
    record {
      from = (cc);
      to = (cc);
      first = (cc);
      pieces = (cc);
      span = (cc);
      from_fits = search rules;
      to_fits = search rules;
      first_fits = search rules;
      pieces_fit = search rules;
      span_fits = search rules;
    }
