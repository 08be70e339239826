use Prim.Native.Nat.{ℕ, suc, ◌+◌, ◌-◌}
use mathlib.Core.Path.{◌≡◌}
use lib.ListN.{length}
use Rattle.settle.specs.Edges.{OnWalk}
use Rattle.settle.specs.Arcs.{web_of, states_of}
use Rattle.settle.specs.Chain.{Rechained}
use Rattle.settle.specs.Marked.{MarksBelow}
use Rattle.settle.specs.Work.{labels, Holds}
use Rattle.records.specs.Format.{volume_of}
use Rattle.records.specs.Index.{Within, walk_at}
use Rattle.theory.specs.Settling.{Table, relax}
use Rattle.settle.proofs.arcs.offer_arcs.Given as goal

abbrev pub invariant-loop-at : goal.invariant-loop-at
invariant-loop-at l =
    let vol = volume_of l.ground.map.times.opened.records.bytes.now in
    let e = walk_at l.at vol.edges in
    Within l.at vol.edges
    × OnWalk vol l.u e
    × (length l.work ≡ length l.initial.work)
    × ((d : ℕ) → MarksBelow vol d vol.junctions l.ground.marks.now → (L : Table)
    → labels (states_of vol) l.initial.work ≡ relax (web_of vol d) l.s l.arrival 1 L
    → Holds (states_of vol) l.initial.work l.work (relax (web_of vol d) l.s l.arrival (suc e) L))
    × Rechained (l.ground.map.times.opened.records.counts.junctions + l.ground.map.times.opened.records.counts.junctions) l.initial.work l.initial.front l.work l.front

abbrev pub decreases-loop-at : goal.decreases-loop-at
decreases-loop-at l =
    let edges = (volume_of l.ground.map.times.opened.records.bytes.now).edges in
    edges - walk_at l.at edges
