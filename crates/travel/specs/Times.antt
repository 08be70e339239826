-- What the two travel times that are sold answer: the duration, or a refusal 1 to 7 with its place.
use Rattle.std.specs.Prelude.{ℕ, ◌-◌, ◌≡◌, List, ltb, Result, Ok, Err}
use Rattle.std.proofs.Common.{sym, ◌∙◌}
use Rattle.block.specs.Choose.{choose}
use Rattle.records.specs.Format.{volume_of}
use Rattle.volume.specs.Open.{open_of}
use Rattle.block.specs.declared.refusal.Refusal.{Refusal}
use Rattle.block.specs.declared.refusal.Refusal.TheVariants.{Unknown}
use Rattle.records.specs.declared.tables.Counts.{Counts}
use Rattle.travel.specs.Network.{road_time, arrival}

-- a volume that does not open is refused as opening refuses it; one that opens is asked
abbrev pub opening : Result Counts Refusal → Result ℕ Refusal → Result ℕ Refusal
opening (Ok c) asked = asked
opening (Err why) asked = Err why

-- 7, place 0: a number that is not below the count; else how long it lasts
abbrev pub timed : ℕ → ℕ → ℕ → Result ℕ Refusal
timed count number lasts = choose (ltb number count) (Ok lasts) (Err Unknown)

-- the duration of a road at a departure
unfoldable pub road_time_of : List ℕ → ℕ → ℕ → Result ℕ Refusal
road_time_of v road departure =
    opening (open_of v) (timed (volume_of v).roads road (road_time (volume_of v) road departure))

-- the duration of an edge at a departure
unfoldable pub edge_time_of : List ℕ → ℕ → ℕ → Result ℕ Refusal
edge_time_of v edge departure =
    opening (open_of v) (timed (volume_of v).edges edge (arrival (volume_of v) edge departure - departure))

-- the contracts of the two travel times allow one answer

pub one_road_time : (v : List ℕ) (road departure : ℕ) (r s : Result ℕ Refusal) → r ≡ road_time_of v road departure → s ≡ road_time_of v road departure → r ≡ s
one_road_time v road departure r s p q = p ∙ sym q

pub one_edge_time : (v : List ℕ) (edge departure : ℕ) (r s : Result ℕ Refusal) → r ≡ edge_time_of v edge departure → s ≡ edge_time_of v edge departure → r ≡ s
one_edge_time v edge departure r s p q = p ∙ sym q
