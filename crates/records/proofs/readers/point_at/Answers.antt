use Rattle.std.proofs.Common.{rules}
use Rattle.records.specs.Format.{volume_of}
use Rattle.records.proofs.readers.point_at.Goals as goal

pub returns : goal.returns
unfolding volume_of
returns c =
    let L = c.requires.laid.points in
    record { second = (cc); duration = (cc); second_fits = search rules; duration_fits = search rules }
