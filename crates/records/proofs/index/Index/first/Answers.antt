use native.Mathlib.Omega.{arith}
use Rattle.records.specs.Format.{volume_of}
use Rattle.records.specs.Index.{entry_found, next_high}
use Rattle.records.proofs.index.Index.first.Goals as goal

pub returns : goal.returns
returns c =
    let i = c.args.self.now in
    let vol = volume_of i.records.bytes.now in
    rw c.then_some.ensures (entry_found i.records.counts.edges _ _ vol.edges i.records.counted.edges (i.linked.firsts c.args.u c.requires) (next_high vol c.args.u 0 (omega arith)))
