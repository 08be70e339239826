use Rattle.telling.specs.Room.{roads_fit}
use Rattle.earliest.proofs.ask.Goals as goal

pub reply-requires : goal.reply-requires
reply-requires g c = roads_fit c.search-answer.ensures
