use Rattle.std.proofs.Common.{ap, sym, ◌∙◌}
use Rattle.records.specs.Format.{volume_of}
use Rattle.theory.specs.Network.{Piece}
use Rattle.full.specs.Cover.{cover_of}
use Rattle.full.specs.FaultFound.{road_fault_by}
use Rattle.full.specs.Turns.{named_road}
use Rattle.full.proofs.road_fault.Goals as goal

pub returns : goal.returns
returns c =
    let vol = volume_of c.args.map.now.times.opened.records.bytes.now in
    let road = c.road-road.ensures in
    let by = c.cover_of-flaw.ensures ∙ ap (λ (p : Piece). cover_of vol c.road-road.result.from c.road-road.result.to p) (sym (named_road c.args.k)) in
    c.of_road.ensures ∙ road_fault_by vol c.args.k _ _ road.from road.to _ by
