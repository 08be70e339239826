use Rattle.std.proofs.Common.{◌≡◌}
use Rattle.block.specs.First.{Passed}
use Rattle.records.specs.Format.{volume_of}
use Rattle.rules.specs.Rules.{road_rule, begins}
use Rattle.volume.proofs.road_pass.roads_pass.Given as goal

abbrev pub invariant-loop-k : goal.invariant-loop-k
invariant-loop-k l =
    let vol = volume_of l.r.bytes.now in
    Passed (road_rule vol) vol.roads l.k × (l.begin ≡ begins vol.road_first vol.road_points l.k)
