-- The number and the values that tell each answer of the face, as host/breezeflint.h says them.
use Rattle.std.specs.Prelude.{ℕ, ◌≡◌, refl, List, [], ◌∷◌, Option, Some, None, Result, Ok, Err}
use Rattle.block.specs.Seal.{sealing, paper}
use Rattle.block.specs.Refusal.{refusal_number, refusal_place}
use Rattle.block.specs.declared.refusal.Refusal.{Refusal}
use Rattle.records.specs.declared.tables.Counts.{Counts}
use Rattle.full.specs.declared.Fault.{Fault}
use Rattle.full.specs.declared.Fault.TheVariants.{RoadMissing, RoadLate, PairMissing, PairLate}
use Rattle.full.specs.Fault.{Verdict}
use Rattle.full.specs.Paper.{Paper, found, refusal, paper as onPaper}
use Rattle.search.specs.Answer.{Reply}
use Rattle.search.specs.declared.Answer.TheVariants.{Closed, NoWay, Open}
use Rattle.exports.specs.Told.{Told}

-- a refusal: its number, and its place
abbrev pub refused : ℕ → ℕ → Told
refused number place = record { number = number; values = place ∷ [] }

abbrev pub refusal_told : Refusal → Told
refusal_told why = refused (refusal_number why) (refusal_place why)

-- sealing: 0, or the refusal's number
abbrev pub sealing_number : List ℕ → ℕ
sealing_number v = paper (sealing v)

-- opening: N, R, P, E, Q
abbrev pub opening_told : Result Counts Refusal → Told
opening_told (Ok c) = record {
  number = 0;
  values = c.junctions ∷ c.roads ∷ c.points ∷ c.edges ∷ c.pieces ∷ [];
}
opening_told (Err why) = refusal_told why

-- a travel time: the duration
abbrev pub timing_told : Result ℕ Refusal → Told
timing_told (Ok duration) = record { number = 0; values = duration ∷ [] }
timing_told (Err why) = refusal_told why

-- four values
abbrev pub four : ℕ → ℕ → ℕ → ℕ → Told
four a b c d = record { number = 0; values = a ∷ b ∷ c ∷ d ∷ [] }

-- the check: kind, road or left edge, right edge or 0, second, as on paper
abbrev pub paper_told : Paper → Told
paper_told (found kind left right second) = four kind left right second
paper_told (refusal number place) = refused number place

abbrev pub verdict_told : Verdict → Told
verdict_told verdict = paper_told (onPaper verdict)

-- whatever is found, the check returns 0
pub checked_number : (found : Option Fault) → 0 ≡ (verdict_told (Ok found)).number
checked_number None = refl
checked_number (Some (RoadMissing k)) = refl
checked_number (Some (RoadLate k x)) = refl
checked_number (Some (PairMissing l r)) = refl
checked_number (Some (PairLate l r x)) = refl

-- a window: lower end, 1 or 0 for whether there is an upper end, the upper end or 0, used
abbrev pub window_told : ℕ → Option ℕ → ℕ → Told
window_told lower (Some most) used = record { number = 0; values = 2 ∷ lower ∷ 1 ∷ most ∷ used ∷ [] }
window_told lower None used = record { number = 0; values = 2 ∷ lower ∷ 0 ∷ 0 ∷ used ∷ [] }

-- the search: kind 0, arrival, used, roads; kind 1, used; kind 2 and the window
abbrev pub answer_told : Reply → Told
answer_told (Ok (Closed arrival used roads)) = four 0 arrival used roads
answer_told (Ok (NoWay used)) = record { number = 0; values = 1 ∷ used ∷ [] }
answer_told (Ok (Open lower upper used)) = window_told lower upper used
answer_told (Err why) = refusal_told why
