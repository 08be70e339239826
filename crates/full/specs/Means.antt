-- What each answer of the full check says, without a word on how it is found: document 01, "Full". Covered, missing and late for a
-- road or a pair; the first fault in the document's order; full. proofs/Promises shows that the check's answer is the
-- one that holds.
use Rattle.std.specs.Prelude.{ℕ, ◌≤◌, ◌<◌, ◌≡◌, ◌≢◌, Option, Some, None, List, Ok, Err}
use Rattle.theory.specs.Network.{Piece, road_of, pair_of, Covers, DayZero, FullDay}
use Rattle.records.specs.Format.{Volume, volume_of}
use Rattle.volume.specs.Open.{open_of}
use Rattle.records.specs.declared.tables.Counts.{Counts}
use Rattle.travel.specs.Network.{network_of, arrival}
use Rattle.full.specs.Cover.{arrival_by}
use Rattle.full.specs.Fault.{Verdict}
use Rattle.full.specs.declared.cover.Flaw.{Flaw}
use Rattle.full.specs.declared.cover.Flaw.TheVariants.{Missing, Late}
use Rattle.full.specs.declared.Fault.{Fault}
use Rattle.full.specs.declared.Fault.TheVariants.{RoadMissing, RoadLate, PairMissing, PairLate}

module _ (vol : Volume) where
  -- no edge leads from u to w
  abbrev pub NoEdge : ℕ → ℕ → Type 0
  NoEdge u w = (e : ℕ) → e < vol.edges → vol.edge_from e ≡ u → vol.edge_to e ≢ w

  -- an edge leads from u to w, and x is the earliest second of the period at which it is slower than q
  pub record LateAt (u w : ℕ) (q : Piece) (x : ℕ) : Type 0 where
    pub edge : ℕ
    pub there : edge < vol.edges
    pub starts : vol.edge_from edge ≡ u
    pub ends : vol.edge_to edge ≡ w
    pub in_period : x < vol.period
    pub late : arrival_by vol q x < arrival vol edge x
    pub earliest : (y : ℕ) → y < x → arrival vol edge y ≤ arrival_by vol q y

  -- what is said of q, which leads from u to w: its edge is missing, or late first at x, or no slower at every second of the period
  abbrev pub CoverSays : ℕ → ℕ → Piece → Option Flaw → Type 0
  CoverSays u w q (Some Missing) = NoEdge u w
  CoverSays u w q (Some (Late x)) = LateAt u w q x
  CoverSays u w q None = Covers (network_of vol) (DayZero (network_of vol)) u w (arrival_by vol q)

  -- of road k
  abbrev pub RoadSays : ℕ → Option Flaw → Type 0
  RoadSays k c = CoverSays (vol.road_from k) (vol.road_to k) (road_of k) c

  -- of the edges l and r in turn
  abbrev pub PairSays : ℕ → ℕ → Option Flaw → Type 0
  PairSays l r c = CoverSays (vol.edge_from l) (vol.edge_to r) (pair_of l r) c

  -- edge l leads u to m and edge r m to w, with u not w and m of lower rank than both
  pub record Pair (l r : ℕ) : Type 0 where
    pub left_there : l < vol.edges
    pub right_there : r < vol.edges
    pub meet : vol.edge_to l ≡ vol.edge_from r
    pub differ : vol.edge_from l ≢ vol.edge_to r
    pub below_from : vol.edge_to l < vol.edge_from l
    pub below_to : vol.edge_to l < vol.edge_to r

  -- the roads below k are covered
  abbrev pub RoadsFine : ℕ → Type 0
  RoadsFine k = (i : ℕ) → i < k → RoadSays i None

  -- the pairs with a left edge below l, and those of left edge l with a right one below r, are covered
  pub record PairsFine (l r : ℕ) : Type 0 where
    pub lefts : (d e : ℕ) → d < l → Pair d e → PairSays d e None
    pub rights : (e : ℕ) → e < r → Pair l e → PairSays l e None

  -- the first fault is road k's
  pub record RoadFirst (k : ℕ) (c : Option Flaw) : Type 0 where
    pub there : k < vol.roads
    pub before : RoadsFine k
    pub says : RoadSays k c

  -- the first fault is that of l and r in turn; roads come before pairs
  pub record PairFirst (l r : ℕ) (c : Option Flaw) : Type 0 where
    pub roads : RoadsFine vol.roads
    pub pair : Pair l r
    pub before : PairsFine l r
    pub says : PairSays l r c

  -- what the first fault, or that there is none, says of a sound volume
  abbrev pub Says : Option Fault → Type 0
  Says None = FullDay (network_of vol)
  Says (Some (RoadMissing k)) = RoadFirst k (Some Missing)
  Says (Some (RoadLate k x)) = RoadFirst k (Some (Late x))
  Says (Some (PairMissing l r)) = PairFirst l r (Some Missing)
  Says (Some (PairLate l r x)) = PairFirst l r (Some (Late x))

-- the volume in v opens: it is sound
abbrev pub Opens : List ℕ → Type 0
Opens v = (c : Counts) × (open_of v ≡ Ok c)

-- what an answer says of any bytes
abbrev pub Means : List ℕ → Verdict → Type 0
Means v (Ok a) = Opens v × Says (volume_of v) a
Means v (Err why) = open_of v ≡ Err why
