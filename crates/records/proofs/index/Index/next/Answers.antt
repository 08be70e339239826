use Prim.Native.Nat.{◌+◌}
use native.Mathlib.Omega.{arith}
use Rattle.records.specs.Format.{volume_of}
use Rattle.records.specs.Index.{entry_found, next_high}
use Rattle.records.proofs.index.Index.next.Goals as goal

pub returns : goal.returns
returns c =
    let i = c.args.self.now in
    let vol = volume_of i.records.bytes.now in
    let r = c.requires in
    rw c.then_some.ensures (
    entry_found i.records.counts.edges _ _ vol.edges i.records.counted.edges (i.linked.nexts c.args.e r.e_bound r.from_bound)
    (next_high vol (vol.edge_from c.args.e) (c.args.e + 1) (omega arith)))
