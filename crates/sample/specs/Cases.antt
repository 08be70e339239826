-- The cases of document 01, "The sample network", that are marked *, in one table under one theorem. Each field is one case, in the
-- document's order, under the document's words; the answers are those of the contracts, from the bytes. The networks are in Bytes. The
-- cases without a mark run as programs. That the sample is full is in Verdicts.
use Rattle.std.specs.Prelude.{ℕ, ◌≡◌, refl, Some, List, [], ◌∷◌, length, replicate, Ok}
use Rattle.std.proofs.Common.{ap, ap₂, ◌∙◌}
use Rattle.block.specs.Word.{put_word}
use Rattle.block.specs.Sums.{check_a, check_b}
use Rattle.theory.specs.Network.{FullDay}
use Rattle.records.specs.Format.{volume_of}
use Rattle.volume.specs.Sound.{Sound}
use Rattle.volume.specs.Open.{open_of}
use Rattle.travel.specs.Times.{road_time_of}
use Rattle.travel.specs.Network.{network_of}
use Rattle.full.specs.Fault.{verdict_of}
use Rattle.full.specs.declared.Fault.TheVariants.{RoadLate}
use Rattle.search.specs.Answer.{answer_of, path_told, ruled, path_after, Searched}
use Rattle.search.specs.Answer.{Reply}
use Rattle.search.specs.declared.Answer.TheVariants.{Closed, NoWay}
use Rattle.sample.specs.Bytes.{sample, one_piece}
use Rattle.sample.specs.Computing.{computing}
use Rattle.sample.specs.Opens.{one_piece_counts, one_piece_opens, one_piece_sound}
use Rattle.sample.specs.Verdicts.{one_piece_verdict, one_piece_not_full}

-- a block with zero content
abbrev pub zeros : List ℕ
zeros = replicate 512 0

-- a block whose first word is 4,294,967,295 and the rest zero
abbrev pub ones : List ℕ
ones = put_word zeros 0 4294967295

-- what the sample answers, with room for 8,192 work numbers and 4,096 roads, to who asks from, to, departure x and budget b; and the
-- roads of the path. Closed has the arrival, the units used and the number of roads, NoWay the units used
abbrev pub asked : ℕ → ℕ → ℕ → ℕ → Reply × List ℕ
asked from to x b = (answer_of sample from to x b 8192 4096, path_told (volume_of sample) x (ruled (volume_of sample) from to x b))

-- the budget where a case gives none
abbrev pub five : ℕ
five = 5

-- the marked cases
pub record Marked : Type 0 where
  -- Road 1 at 0: 100; at 1: 99; at 100: 50; at 60: 70.
  pub road_at_0 : road_time_of sample 1 0 ≡ Ok 100
  pub road_at_1 : road_time_of sample 1 1 ≡ Ok 99
  pub road_at_100 : road_time_of sample 1 100 ≡ Ok 50
  pub road_at_60 : road_time_of sample 1 60 ≡ Ok 70
  -- Zero content in block 0: A 1, B 126. First word 4,294,967,295, rest zero: A 0, B 0.
  pub zero_content : (check_a zeros 0 ≡ 1) × (check_b zeros 0 ≡ 126)
  pub first_word_ones : (check_a ones 0 ≡ 0) × (check_b ones 0 ≡ 0)
  -- 1 to 2 at 0, budget 3: arrive 130 used 2 roads 0 1.
  pub one_to_two : asked 1 2 0 3 ≡ (Ok (Closed 130 2 2), 0 ∷ 1 ∷ [])
  -- At 70,805: 70,955 by roads 0 1. At 70,806: 70,956 by road 2.
  pub at_70805 : asked 1 2 70805 five ≡ (Ok (Closed 70955 2 2), 0 ∷ 1 ∷ [])
  pub at_70806 : asked 1 2 70806 five ≡ (Ok (Closed 70956 2 1), 2 ∷ [])
  -- 2 to 1: no way used 1. 1 to 0 at 0: arrives 60, used 2.
  pub two_to_one : asked 2 1 0 five ≡ (Ok (NoWay 1), [])
  pub one_to_zero : asked 1 0 0 five ≡ (Ok (Closed 60 2 1), 0 ∷ [])
  -- Edge 2 with its first piece alone: sound, not full, road 2 late at 70,806.
  pub one_piece_opens : open_of one_piece ≡ Ok one_piece_counts
  pub one_piece_sound : Sound (volume_of one_piece)
  pub one_piece_not_full : FullDay (network_of (volume_of one_piece)) → ⊥
  pub one_piece_late : verdict_of one_piece ≡ Ok (Some (RoadLate 2 70806))

-- they hold
pub marked_cases : Marked
unfolding computing
marked_cases = record {
  road_at_0 = refl;
  road_at_1 = refl;
  road_at_100 = refl;
  road_at_60 = refl;
  zero_content = (refl, refl);
  first_word_ones = (refl, refl);
  one_to_two = refl;
  at_70805 = refl;
  at_70806 = refl;
  two_to_one = refl;
  one_to_zero = refl;
  one_piece_opens = one_piece_opens;
  one_piece_sound = one_piece_sound;
  one_piece_not_full = one_piece_not_full;
  one_piece_late = one_piece_verdict;
}

-- whatever the contract of the search allows for the sample, with that room, is what the table has: the answer, and the path list with
-- the roads in its first places
pub asked_is : (from to x b : ℕ) (work path : List ℕ) (r : Reply) (workOut pathOut : List ℕ) → length work ≡ 8192 → length path ≡ 4096
    → Searched sample from to x b work path r workOut pathOut
    → (r ≡ (asked from to x b).0) × (pathOut ≡ path_after (asked from to x b).0 (asked from to x b).1 path)
asked_is from to x b work path r workOut pathOut w p s =
    let a : r ≡ (asked from to x b).0 = s.answers ∙ ap₂ (answer_of sample from to x b) w p in
    (a, s.writes ∙ ap (λ (q : Reply). path_after q (asked from to x b).1 path) a)
