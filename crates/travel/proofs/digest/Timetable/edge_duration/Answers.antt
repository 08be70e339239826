use Rattle.travel.proofs.Ways.{stands_between}
use Rattle.travel.proofs.digest.Timetable.edge_duration.Goals as goal

pub pieces_duration-requires-clause-stands : goal.pieces_duration-requires-clause-stands
pieces_duration-requires-clause-stands c =
    stands_between c.args.self.now.opened.sound c.args.e c.requires.there _ _ c.pieces-at.ensures.0 c.pieces-end.ensures.0
