use Rattle.telling.specs.Room.{roads_fit}
use Rattle.boundaries.proofs.spans.ask_greatest.Goals as goal

pub asked-requires : goal.asked-requires
asked-requires g c = roads_fit c.search-a.ensures
