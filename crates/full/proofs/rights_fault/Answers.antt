use Rattle.std.proofs.Common.{refl, sym, ◌∙◌, arith}
use Rattle.records.specs.Format.{volume_of}
use Rattle.records.specs.Index.{found_place, found_within, walk_on}
use Rattle.full.specs.Fault.{pair_fault, rights_fault}
use Rattle.full.specs.FaultRow.{not_full, fault_none, fault_stop, fault_end}
use Rattle.full.specs.FaultFound.{fault_high, walk_start, walk_next}
use Rattle.full.proofs.rights_fault.Goals as goal

pub returns-then-left-m : goal.returns-then-left-m
unfolding rights_fault
returns-then-left-m c =
    let vol = volume_of c.args.map.now.times.opened.records.bytes.now in
    let left = c.edge-left.ensures in
    fault_none (pair_fault vol c.args.l) vol.edges (λ i h. fault_high vol c.args.l i (omega (arith, left.from, left.to, c.if-left-m.true)))

pub loop-at-init : goal.loop-at-init
loop-at-init c =
    let vol = volume_of c.args.map.now.times.opened.records.bytes.now in
    let found = c.first-at.ensures in
    (found_within _ _ _ found, walk_start vol c.args.l c.edge-left.result.to c.edge-left.ensures.to _ (found_place _ _ _ found))

pub pair_fault-requires-clause-m_value : goal.pair_fault-requires-clause-m_value
pair_fault-requires-clause-m_value c =
    let at = rw c.in-Some.is at c.loop-at.invariant in
    (c.edge-left.ensures.to ∙ at.1.begins_there at.0, c.if-left-m.false)

pub returns-in-Some-pair_fault : goal.returns-in-Some-pair_fault
unfolding rights_fault
returns-in-Some-pair_fault c =
    let vol = volume_of c.args.map.now.times.opened.records.bytes.now in
    let at = rw c.in-Some.is at c.loop-at.invariant in
    fault_stop (pair_fault vol c.args.l) vol.edges c.in-Some.r _ at.0 c.in-Some-pair_fault.ensures (not_full _ refl) at.1.none

pub loop-at-smaller : goal.loop-at-smaller
loop-at-smaller c =
    let vol = volume_of c.args.map.now.times.opened.records.bytes.now in
    let at = rw c.in-Some.is at c.loop-at.invariant in
    let on = walk_on vol (vol.edge_from c.in-Some.r) c.in-Some.r c.next-at.result at.0 refl c.next-at.ensures in
    rw c.in-Some.is on.nearer

pub loop-at-preserved : goal.loop-at-preserved
loop-at-preserved c =
    let vol = volume_of c.args.map.now.times.opened.records.bytes.now in
    let left = c.edge-left in
    let at = rw c.in-Some.is at c.loop-at.invariant in
    let m = left.ensures.to ∙ at.1.begins_there at.0 in
    let on = walk_on vol left.result.to c.in-Some.r c.next-at.result at.0 (sym m) c.next-at.ensures in
    (on.within, walk_next vol c.args.l left.result.to left.ensures.to c.in-Some.r _ at.0 (sym c.in_default-pair_fault.ensures) at.1 on.place)

pub returns : goal.returns
unfolding rights_fault
returns c =
    let vol = volume_of c.args.map.now.times.opened.records.bytes.now in
    let at = rw c.in_default.is at c.loop-at.invariant in
    fault_end (pair_fault vol c.args.l) vol.edges vol.edges (omega arith) at.1.inside at.1.none
