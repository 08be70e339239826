use Rattle.exports.specs.Told.{tells_not}
use Rattle.exports.proofs.bf_edge_time.Goals as goal

pub returns-then-out-lt8 : goal.returns-then-out-lt8
returns-then-out-lt8 c = tells_not _ _ c.if-out-lt8.true
