use Rattle.travel.specs.Digest.{steady_lasts}
use Rattle.travel.proofs.digest.Timetable.road_lasts.Goals as goal

pub returns-in-Some : goal.returns-in-Some
returns-in-Some c = steady_lasts c.args.self.now.opened.sound c.args.k c.args.x _ c.requires c.in-Some.ensures.0 c.in-Some.ensures.1
