use Rattle.std.proofs.Common.{◌+◌, ◌*◌}
use Rattle.travel.proofs.digest.Timetable.+piece_duration_pieces_duration.Given as goal

abbrev pub decreases-piece_duration : goal.decreases-piece_duration
decreases-piece_duration l = 2 * l.e

abbrev pub decreases-pieces_duration : goal.decreases-pieces_duration
decreases-pieces_duration l = 2 * l.e + 1
