use Rattle.std.proofs.Common.{sym, ◌∙◌, arith}
use Rattle.records.specs.Format.{volume_of}
use Rattle.records.specs.Index.{found_place, found_within, walk_on, none_first, none_next}
use Rattle.full.specs.CoverFound.{edge_found, edge_none}
use Rattle.full.proofs.cover.find_edge.Goals as goal

pub loop-at-init : goal.loop-at-init
loop-at-init c =
    let vol = volume_of c.args.map.now.times.opened.records.bytes.now in
    let found = c.first-at.ensures in
    (found_within _ _ _ found, none_first vol c.args.u c.args.w _ (found_place _ _ _ found))

pub returns-then-edge-w : goal.returns-then-edge-w
returns-then-edge-w c =
    let vol = volume_of c.args.map.now.times.opened.records.bytes.now in
    let at = rw c.in-Some.is at c.loop-at.invariant in
    (edge_found vol c.args.u c.args.w c.in-Some.e at.0 at.1 (sym c.edge.ensures.to ∙ c.if-edge-w.true), at.0)

pub loop-at-smaller : goal.loop-at-smaller
loop-at-smaller c =
    let vol = volume_of c.args.map.now.times.opened.records.bytes.now in
    let at = rw c.in-Some.is at c.loop-at.invariant in
    let on = walk_on vol c.args.u c.in-Some.e c.next-at.result at.0 (at.1.begins_there at.0) c.next-at.ensures in
    rw c.in-Some.is on.nearer

pub loop-at-preserved : goal.loop-at-preserved
loop-at-preserved c =
    let vol = volume_of c.args.map.now.times.opened.records.bytes.now in
    let at = rw c.in-Some.is at c.loop-at.invariant in
    let on = walk_on vol c.args.u c.in-Some.e c.next-at.result at.0 (at.1.begins_there at.0) c.next-at.ensures in
    (on.within, none_next vol c.args.u c.args.w c.in-Some.e _ at.0 at.1 (λ z. c.if-edge-w.false (c.edge.ensures.to ∙ z)) on.place)

pub returns : goal.returns
returns c =
    let vol = volume_of c.args.map.now.times.opened.records.bytes.now in
    let at = rw c.in_default.is at c.loop-at.invariant in
    sym (edge_none vol c.args.u c.args.w vol.edges (omega arith) at.1)
