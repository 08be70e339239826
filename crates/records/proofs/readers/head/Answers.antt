use Rattle.records.specs.Format.{volume_of}
use Rattle.records.proofs.readers.head.Goals as goal

pub returns : goal.returns
unfolding volume_of
returns c = (cc)
