use Rattle.std.proofs.Common.{refl, rules}
use Rattle.records.specs.Format.{volume_of}
use Rattle.full.specs.Fault.{rights_fault, lefts_fault}
use Rattle.full.proofs.RowRange.{row_of_range}
use Rattle.full.proofs.lefts_fault.Goals as goal

pub returns : goal.returns
unfolding lefts_fault
returns c =
    let r = c.args.map.now.times.opened.records in
    let vol = volume_of r.bytes.now in
    row_of_range (rights_fault vol) vol.edges refl r.counted.edges c.find_map.ensures.runs (λ x b q k. search rules) (λ x b k. search rules)
