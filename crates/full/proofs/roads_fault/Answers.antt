use Rattle.std.proofs.Common.{refl, rules}
use Rattle.records.specs.Format.{volume_of}
use Rattle.full.specs.Fault.{road_fault, roads_fault}
use Rattle.full.proofs.RowRange.{row_of_range}
use Rattle.full.proofs.roads_fault.Goals as goal

pub returns : goal.returns
unfolding roads_fault
returns c =
    let r = c.args.map.now.times.opened.records in
    let vol = volume_of r.bytes.now in
    row_of_range (road_fault vol) vol.roads refl r.counted.roads c.find_map.ensures.runs (λ x b q k. search rules) (λ x b k. search rules)
