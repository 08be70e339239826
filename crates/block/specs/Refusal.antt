-- The document's number and place of each refusal.
use Rattle.std.specs.Prelude.{ℕ, zero, suc, ◌≡◌, refl}
use Rattle.std.proofs.Common.{sym, ◌∙◌}
use Rattle.std.proofs.Math.Path.{ap₂}
use Rattle.block.specs.declared.refusal.Refusal.{Refusal}
use Rattle.block.specs.declared.refusal.Refusal.TheVariants.{Length, Sums, Edition, Head, Road, Edge, Unknown, UnknownDestination, Work, Path, Arrival}

-- the numbers, in the document's order
abbrev pub refusal_number : Refusal → ℕ
refusal_number Length = 1
refusal_number (Sums k) = 2
refusal_number Edition = 3
refusal_number Head = 4
refusal_number (Road k) = 5
refusal_number (Edge e) = 6
refusal_number Unknown = 7
refusal_number UnknownDestination = 7
refusal_number Work = 8
refusal_number (Path n) = 9
refusal_number Arrival = 10

-- the places: the block, the road, the edge, 1 for the destination, the roads needed; else 0
abbrev pub refusal_place : Refusal → ℕ
refusal_place Length = 0
refusal_place (Sums k) = k
refusal_place Edition = 0
refusal_place Head = 0
refusal_place (Road k) = k
refusal_place (Edge e) = e
refusal_place Unknown = 0
refusal_place UnknownDestination = 1
refusal_place Work = 0
refusal_place (Path n) = n
refusal_place Arrival = 0

-- a refusal back from its number and place
abbrev pub refusal_by : ℕ → ℕ → Refusal
refusal_by zero place = Length
refusal_by (suc zero) place = Length
refusal_by (suc (suc zero)) place = Sums place
refusal_by (suc (suc (suc zero))) place = Edition
refusal_by (suc (suc (suc (suc zero)))) place = Head
refusal_by (suc (suc (suc (suc (suc zero))))) place = Road place
refusal_by (suc (suc (suc (suc (suc (suc zero)))))) place = Edge place
refusal_by (suc (suc (suc (suc (suc (suc (suc zero))))))) zero = Unknown
refusal_by (suc (suc (suc (suc (suc (suc (suc zero))))))) (suc place) = UnknownDestination
refusal_by (suc (suc (suc (suc (suc (suc (suc (suc zero)))))))) place = Work
refusal_by (suc (suc (suc (suc (suc (suc (suc (suc (suc zero))))))))) place = Path place
refusal_by (suc (suc (suc (suc (suc (suc (suc (suc (suc (suc n)))))))))) place = Arrival

pub refusal_back : (why : Refusal) → refusal_by (refusal_number why) (refusal_place why) ≡ why
refusal_back Length = refl
refusal_back (Sums k) = refl
refusal_back Edition = refl
refusal_back Head = refl
refusal_back (Road k) = refl
refusal_back (Edge e) = refl
refusal_back Unknown = refl
refusal_back UnknownDestination = refl
refusal_back Work = refl
refusal_back (Path n) = refl
refusal_back Arrival = refl

-- no two refusals have the same number and place
pub refusals_tell : (a b : Refusal) → refusal_number a ≡ refusal_number b → refusal_place a ≡ refusal_place b → a ≡ b
refusals_tell a b e f = sym (refusal_back a) ∙ ap₂ refusal_by e f ∙ refusal_back b
