use Rattle.telling.specs.Room.{roads_fit}
use Rattle.trials.proofs.questions.ask_with.Goals as goal

pub asked-requires : goal.asked-requires
asked-requires g c = roads_fit c.search-a.ensures
