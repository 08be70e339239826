use Prim.Native.Nat.{ℕ, ◌-◌, ◌<◌}
use mathlib.Core.Path.{◌≡◌}
use mathlib.Core.Bool.{false}
use Rattle.settle.specs.Edges.{OnWalk}
use Rattle.settle.specs.Marked.{falls}
use Rattle.records.specs.Format.{volume_of}
use Rattle.records.specs.Index.{Within, walk_at}
use Rattle.settle.proofs.marks.mark_of.Given as goal

abbrev pub invariant-loop-at : goal.invariant-loop-at
invariant-loop-at l =
    let vol = volume_of l.index.records.bytes.now in
    let e = walk_at l.at vol.edges in
    Within l.at vol.edges × OnWalk vol l.u e × ((j : ℕ) → j < e → falls vol l.to l.u j ≡ false)

abbrev pub decreases-loop-at : goal.decreases-loop-at
decreases-loop-at l =
    let edges = (volume_of l.index.records.bytes.now).edges in
    edges - walk_at l.at edges
