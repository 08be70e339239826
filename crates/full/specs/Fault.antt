-- What the full check answers: document 01, "Full". The fault of each road and of each pair of edges, the first fault of a row of
-- them, and the whole answer. The numbers of each answer are in Paper, and what it says in Means.
use Rattle.std.specs.Prelude.{ℕ, Bool, true, false, Option, Some, None, Result, Ok, Err, not, List, eqb, ltb}
use Rattle.block.specs.Choose.{choose, both}
use Rattle.block.specs.First.{first_not}
use Rattle.theory.specs.Network.{road_of, pair_of}
use Rattle.records.specs.Format.{Volume, volume_of}
use Rattle.volume.specs.Open.{open_of}
use Rattle.records.specs.declared.tables.Counts.{Counts}
use Rattle.block.specs.declared.refusal.Refusal.{Refusal}
use Rattle.full.specs.Cover.{cover_of}
use Rattle.full.specs.declared.cover.Flaw.{Flaw}
use Rattle.full.specs.declared.cover.Flaw.TheVariants.{Missing, Late}
use Rattle.full.specs.declared.Fault.{Fault}
use Rattle.full.specs.declared.Fault.TheVariants.{RoadMissing, RoadLate, PairMissing, PairLate}

-- no fault
abbrev pub is_full : Option Fault → Bool
is_full None = true
is_full (Some fault) = false

-- the first of the faults f 0, .. f (n - 1), or none
unfoldable pub first_fault : (ℕ → Option Fault) → ℕ → Option Fault
first_fault f n = let k = first_not (λ i. is_full (f i)) n 0 in choose (eqb k n) None (f k)

-- the fault of road k, by how the edges cover it
abbrev pub of_road : ℕ → Option Flaw → Option Fault
of_road k None = None
of_road k (Some Missing) = Some (RoadMissing k)
of_road k (Some (Late x)) = Some (RoadLate k x)

-- the fault of the edges l and r in turn, by how the edges cover them
abbrev pub of_pair : ℕ → ℕ → Option Flaw → Option Fault
of_pair l r None = None
of_pair l r (Some Missing) = Some (PairMissing l r)
of_pair l r (Some (Late x)) = Some (PairLate l r x)

module _ (vol : Volume) where
  -- each road is to be covered by an edge with its ends
  unfoldable pub road_fault : ℕ → Option Fault
  road_fault k = of_road k (cover_of vol (vol.road_from k) (vol.road_to k) (road_of k))

  -- l is an edge u to m and r an edge m to w, with u not w and m of lower rank than both
  unfoldable pub is_pair : ℕ → ℕ → Bool
  is_pair l r =
      both (eqb (vol.edge_to l) (vol.edge_from r))
      (both (not (eqb (vol.edge_from l) (vol.edge_to r)))
      (both (ltb (vol.edge_to l) (vol.edge_from l)) (ltb (vol.edge_to l) (vol.edge_to r))))

  -- each such pair is to be covered by an edge u to w
  unfoldable pub pair_fault : ℕ → ℕ → Option Fault
  pair_fault l r = choose (is_pair l r) (of_pair l r (cover_of vol (vol.edge_from l) (vol.edge_to r) (pair_of l r))) None

  -- the first fault of a road, by number
  unfoldable pub roads_fault : Option Fault
  roads_fault = first_fault road_fault vol.roads

  -- the first fault of a pair with left edge l, by the right one's number
  unfoldable pub rights_fault : ℕ → Option Fault
  rights_fault l = first_fault (pair_fault l) vol.edges

  -- the first fault of a pair, by the left edge's number
  unfoldable pub lefts_fault : Option Fault
  lefts_fault = first_fault rights_fault vol.edges

  -- roads come before pairs
  unfoldable pub fault_of : Option Fault
  fault_of = choose (is_full roads_fault) lefts_fault roads_fault

-- what the check answers: the first fault or none, or a refusal
abbrev pub Verdict : Type 0
Verdict = Result (Option Fault) Refusal

-- the answer where opening says o: a refusal is passed on
abbrev pub answered : Result Counts Refusal → Option Fault → Verdict
answered (Ok c) a = Ok a
answered (Err why) a = Err why

-- what the check answers
unfoldable pub verdict_of : List ℕ → Verdict
verdict_of v = answered (open_of v) (fault_of (volume_of v))
