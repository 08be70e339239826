-- The sample network and the one whose edge 2 has its first piece alone both open, by computation, and so they are sound. What the
-- full check says of them is in Verdicts.
use Rattle.std.specs.Prelude.{◌≡◌, refl, Ok}
use Rattle.records.specs.Format.{volume_of}
use Rattle.volume.specs.Sound.{Sound}
use Rattle.volume.specs.Open.{open_of}
use Rattle.volume.specs.Opened.{opened}
use Rattle.records.specs.declared.tables.Counts.{Counts}
use Rattle.sample.specs.Bytes.{sample, one_piece}
use Rattle.sample.specs.Computing.{computing}

-- N, R, P, E and Q of the sample
abbrev pub sample_counts : Counts
sample_counts = record { junctions = 3; roads = 3; points = 4; edges = 3; pieces = 5 }

-- with one piece Q is 3
abbrev pub one_piece_counts : Counts
one_piece_counts = record { junctions = 3; roads = 3; points = 4; edges = 3; pieces = 3 }

-- the sample opens
pub sample_opens : open_of sample ≡ Ok sample_counts
unfolding computing
sample_opens = refl

-- and so does the network with one piece
pub one_piece_opens : open_of one_piece ≡ Ok one_piece_counts
unfolding computing
one_piece_opens = refl

-- so the facts of Sound hold of the sample: somebody meets them
pub sample_sound : Sound (volume_of sample)
sample_sound = (opened sample sample_counts sample_opens).sound

-- and of the other
pub one_piece_sound : Sound (volume_of one_piece)
one_piece_sound = (opened one_piece one_piece_counts one_piece_opens).sound
