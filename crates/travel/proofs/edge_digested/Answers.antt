use Rattle.std.proofs.Common.{arith}
use Rattle.records.specs.Format.{volume_of}
use Rattle.travel.specs.Digest.{digest_made}
use Rattle.travel.proofs.edge_digested.Goals as goal

pub invariant_of-times : goal.invariant_of-times
invariant_of-times g c =
    let r = c.args.opened.now.records in
    let D = digest_made (volume_of r.bytes.now) _ (omega (arith, r.counted.edges, r.counted.roads, c.requires.n_bound.0)) in
    record { told = rw c.make_digest.ensures D }
