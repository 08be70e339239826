use Rattle.std.proofs.Common.{◌≡◌, length}
use Rattle.block.specs.Seal.{seal_to}
use Rattle.block.proofs.seal_blocks.Given as goal

abbrev pub invariant-loop-k : goal.invariant-loop-k
invariant-loop-k l = (l.v ≡ seal_to l.initial.v l.k) × (length l.v ≡ length l.initial.v)
