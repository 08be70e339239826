use Prim.Native.Nat.{suc, ◌+◌}
use mathlib.Core.Path.{sym, ◌∙◌}
use native.Mathlib.Numerals.{add-one}
use native.Mathlib.Omega.{arith}
use Rattle.settle.specs.Arcs.{web_of, states_of, lead_below, arc_offered, arrives_soon}
use Rattle.records.specs.Format.{volume_of}
use Rattle.settle.proofs.arcs.offer_edge.Goals as goal

pub overflow_add-later : goal.overflow_add-later
overflow_add-later c =
    let R = c.args.ground.now.map.times.opened.records in
    omega (arith, arrives_soon (volume_of c.args.ground.now.map.times.opened.records.bytes.now) c.args.ground.now.map.times.opened.sound c.args.e c.args.arrival _ c.requires.e_bound.0 c.requires.arrival_bound.0 c.edge_duration.ensures)

pub returns-then-work-at-lt-SETTLED-clause-does : goal.returns-then-work-at-lt-SETTLED-clause-does
returns-then-work-at-lt-SETTLED-clause-does c =
    let vol = volume_of c.args.ground.now.map.times.opened.records.bytes.now in
    let R = c.args.ground.now.map.times.opened.records in
    let below = lead_below (c.args.ground.now.map.times.opened.records.counts.junctions + c.args.ground.now.map.times.opened.records.counts.junctions) _ _ c.in-Some.is c.lead_of.ensures.leads_below in
    let o = c.offer_to in
    λ d m. arc_offered (web_of vol d) (states_of vol) c.args.s c.args.arrival (suc c.args.e) c.args.work.now _
    (sym c.in-Some.is ∙ c.lead_of.ensures.by_index d m) (omega (arith, R.counted.junctions)) c.args.head _ _ _
    c.edge_duration.ensures (add-one c.args.e) (omega (arith, R.counted.junctions, c.requires.arrival_bound.1)) o.ensures.work_after
