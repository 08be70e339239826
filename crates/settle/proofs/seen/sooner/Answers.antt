use native.Mathlib.Omega.{arith}
use Rattle.settle.specs.Scan.{sooner_less, sooner_lower}
use Rattle.settle.proofs.seen.sooner.Goals as goal

-- the pair is less: its arrival is less, or as early and its number lower
pub returns-then-lt : goal.returns-then-lt
returns-then-lt c = rw c.in-Some.is (grind (arith, sooner_less, sooner_lower))
