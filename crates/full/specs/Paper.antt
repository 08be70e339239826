-- The document's numbers and values of each answer of the check, and that they tell the answers apart.
use Rattle.std.specs.Prelude.{ℕ, zero, suc, ◌≡◌, refl, Some, None, Ok, Err}
use Rattle.std.proofs.Common.{ap, sym, ◌∙◌}
use Rattle.block.specs.Refusal.{refusal_number, refusal_place, refusal_by, refusal_back}
use Rattle.full.specs.Fault.{Verdict}
use Rattle.full.specs.declared.Fault.TheVariants.{RoadMissing, RoadLate, PairMissing, PairLate}

-- what the document says of an answer: a kind, the road or the left edge, the right edge or 0, and the earliest late second, 0 for a
-- missing edge; or the number of a refusal and its place
pub data Paper : Type 0 where
  found : ℕ → ℕ → ℕ → ℕ → Paper
  refusal : ℕ → ℕ → Paper

-- the kinds: 0 full, 1 a road's edge missing, 2 a road's edge late, 3 a pair's edge missing, 4 a pair's edge late
abbrev pub paper : Verdict → Paper
paper (Ok None) = found 0 0 0 0
paper (Ok (Some (RoadMissing k))) = found 1 k 0 0
paper (Ok (Some (RoadLate k x))) = found 2 k 0 x
paper (Ok (Some (PairMissing l r))) = found 3 l r 0
paper (Ok (Some (PairLate l r x))) = found 4 l r x
paper (Err why) = refusal (refusal_number why) (refusal_place why)

-- the answer back from its numbers
abbrev answer_by : Paper → Verdict
answer_by (found zero k r x) = Ok None
answer_by (found (suc zero) k r x) = Ok (Some (RoadMissing k))
answer_by (found (suc (suc zero)) k r x) = Ok (Some (RoadLate k x))
answer_by (found (suc (suc (suc zero))) l r x) = Ok (Some (PairMissing l r))
answer_by (found (suc (suc (suc (suc n)))) l r x) = Ok (Some (PairLate l r x))
answer_by (refusal number place) = Err (refusal_by number place)

-- it is the same
back : (a : Verdict) → answer_by (paper a) ≡ a
back (Ok None) = refl
back (Ok (Some (RoadMissing k))) = refl
back (Ok (Some (RoadLate k x))) = refl
back (Ok (Some (PairMissing l r))) = refl
back (Ok (Some (PairLate l r x))) = refl
back (Err why) = ap Err (refusal_back why)

-- no two answers have the same numbers
pub paper_tells : (a b : Verdict) → paper a ≡ paper b → a ≡ b
paper_tells a b e = sym (back a) ∙ ap answer_by e ∙ back b
