use Rattle.std.proofs.Common.{ℕ, refl, sym, arith, List, replicate}
use Rattle.std.proofs.lemmas.List.{length-replicate}
use Rattle.records.specs.Format.{volume_of}
use Rattle.records.specs.Index.{indexed_linked}
use Rattle.travel.specs.Digest.{digest_made}
use Rattle.full.specs.FaultRow.{not_full}
use Rattle.full.proofs.FaultFound.{faults_road, faults_pair}
use Rattle.full.proofs.fault_of.Goals as goal

pub invariant_of-times : goal.invariant_of-times
invariant_of-times c =
    let r = c.args.opened.now.records in
    let zeros : List ℕ = replicate 20481 0 in
    let D = digest_made (volume_of r.bytes.now) zeros (omega (arith, length-replicate {A = ℕ} 20481 0, r.counted.edges, r.counted.roads, c.args.opened.now.sound.edges_few, c.args.opened.now.sound.roads_few)) in
    record { told = rw c.make_digest.ensures D }

pub new-map-requires : goal.new-map-requires
new-map-requires c =
    let r = c.args.opened.now.records in
    indexed_linked (volume_of r.bytes.now) _ _ _ _
    (simp length-replicate (omega (arith, r.counted.junctions, c.args.opened.now.sound.junctions_few)))
    (simp length-replicate (omega (arith, r.counted.edges, c.args.opened.now.sound.edges_few)))
    c.index_edges.ensures

pub returns-in-Some : goal.returns-in-Some
returns-in-Some c =
    faults_road (volume_of c.args.opened.now.records.bytes.now) _ (rw c.new-map.ensures.times.0 at c.in-Some.ensures) (not_full _ refl)

pub returns : goal.returns
returns c =
    let e = c.new-map.ensures.times.0 in
    faults_pair (volume_of c.args.opened.now.records.bytes.now) _ (sym (rw e at c.in_default.ensures)) (rw e at c.lefts_fault.ensures)
