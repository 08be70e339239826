use Rattle.std.proofs.Common.{refl, rules}
use Rattle.block.specs.Seal.{seal_to, seal_to_next}
use Rattle.block.proofs.seal_blocks.Goals as goal

pub loop-k-init : goal.loop-k-init
unfolding seal_to
loop-k-init c = (refl, refl)

pub loop-k-preserved : goal.loop-k-preserved
loop-k-preserved c = (cc (seal_to_next c.args.v.now c.loop-k.k), search rules)
