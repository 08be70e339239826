use Rattle.std.proofs.Common.{ℕ, arith, Bool, false}
use Rattle.std.proofs.lemmas.List.{length-replicate}
use Rattle.records.specs.Format.{volume_of}
use Rattle.records.specs.Index.{indexed_linked}
use Rattle.travel.specs.Digest.{digest_made}
use Rattle.settle.proofs.run_with.Goals as goal

pub invariant_of-times : goal.invariant_of-times
invariant_of-times g c =
    let r = c.args.opened.now.records in
    let D = digest_made (volume_of r.bytes.now) _ (omega (arith, c.requires.edges_in_bounds.1, r.counted.edges, r.counted.roads)) in
    record { told = rw c.make_digest.ensures D }

pub invariant_of-index : goal.invariant_of-index
invariant_of-index g c =
    let r = c.args.opened.now.records in
    let zeros = length-replicate {A = ℕ} 1024 0 in
    let more = length-replicate {A = ℕ} g.row.INDEX 0 in
    record {
      linked = indexed_linked (volume_of r.bytes.now) _ _ _ _ (omega (arith, r.counted.junctions, c.args.opened.now.sound.junctions_few))
          (omega (arith, r.counted.edges, c.requires.edges_in_bounds.0)) c.index_edges.ensures;
    }

pub mark-requires : goal.mark-requires
mark-requires g c =
    let r = c.args.opened.now in
    omega (arith, r.records.counted.junctions, r.sound.junctions_few)

pub units-requires-clause-question : goal.units-requires-clause-question
units-requires-clause-question g c = rw c.new-map.ensures.times.0 c.requires.question

pub invariant_of-ground : goal.invariant_of-ground
invariant_of-ground g c =
    let zeros = length-replicate {A = Bool} 1024 false in
    record { room = omega (arith, c.mark.ensures.size, c.new-map.result.times.opened.sound.junctions_few, c.new-map.result.times.opened.records.counted.junctions) }

pub units-requires-clause-marked : goal.units-requires-clause-marked
units-requires-clause-marked g c = rw c.new-map.ensures.times.0 c.mark.ensures.marks_at

pub returns : goal.returns
returns g c = rw c.new-map.ensures.times.0 at c.units.ensures
