use Prim.Native.Nat.{ℕ, ◌+◌}
use mathlib.Core.List.{List}
use mathlib.Core.Bool.{Bool}
use lib.Dec.{eqb}
use Rattle.block.specs.First.{Passed}
use Rattle.block.specs.Word.{content_at}
use Rattle.volume.proofs.filler_zero.Given as goal

-- content word words + i is zero
abbrev pub zeroAt : List ℕ → ℕ → ℕ → Bool
zeroAt v words i = eqb (content_at v (words + i)) 0

abbrev pub invariant-loop-i : goal.invariant-loop-i
invariant-loop-i l = Passed (zeroAt l.v l.words) l.n l.i
