-- What a sound volume obeys, as named facts about its functions: as much of it as the crates above opening use, and no rule's text. That
-- a volume is sound, with nothing left out, is that it opens: `open_of` of Open answers `Ok`.
use Rattle.std.specs.Prelude.{ℕ, ◌+◌, ◌-◌, ◌≤◌, ◌<◌, ◌≡◌, ◌≢◌}
use Rattle.records.specs.Format.{Volume, empty}
use Rattle.rules.specs.Rules.{longest, most_span, begins, second, duration, start}

-- n points with seconds s and durations d, in a period
pub record Points (period n : ℕ) (s d : ℕ → ℕ) : Type 0 where
  pub some : 0 < n
  pub in_period : (i : ℕ) → i < n → s i < period
  pub rise : (i : ℕ) → i + 1 < n → s i < s (i + 1)
  pub lasts : (i : ℕ) → i < n → 1 ≤ d i
  pub short : (i : ℕ) → i < n → d i ≤ longest
  -- the duration falls by no more than the seconds between, to the next point and from the last over midnight to the first
  pub fall : (i : ℕ) → i + 1 < n → d i ≤ d (i + 1) + (s (i + 1) - s i)
  pub fall_over : d (n - 1) ≤ d 0 + (s 0 + period - s (n - 1))

pub record SoundRoad (vol : Volume) (k : ℕ) : Type 0 where
  pub ends_differ : vol.road_from k ≢ vol.road_to k
  pub from_in : vol.road_from k < vol.junctions
  pub to_in : vol.road_to k < vol.junctions
  pub inside : vol.road_first k + vol.road_points k ≤ vol.points
  pub points : Points vol.period (vol.road_points k) (second vol k) (duration vol k)

-- piece p of edge e, with an empty middle: a road with the edge's ends
pub record RoadPiece (vol : Volume) (e p : ℕ) : Type 0 where
  pub road : vol.piece_left p < vol.roads
  pub from : vol.road_from (vol.piece_left p) ≡ vol.edge_from e
  pub to : vol.road_to (vol.piece_left p) ≡ vol.edge_to e
  pub span : 1 ≤ vol.edge_span e

-- piece p of edge e, otherwise: two edges of smaller number that meet at a lower middle
pub record PairPiece (vol : Volume) (e p : ℕ) : Type 0 where
  pub left : vol.piece_left p < e
  pub right : vol.piece_right p < e
  pub from : vol.edge_from (vol.piece_left p) ≡ vol.edge_from e
  pub to : vol.edge_to (vol.piece_right p) ≡ vol.edge_to e
  pub meet : vol.edge_to (vol.piece_left p) ≡ vol.edge_from (vol.piece_right p)
  pub below_from : vol.edge_to (vol.piece_left p) < vol.edge_from e
  pub below_to : vol.edge_to (vol.piece_left p) < vol.edge_to e
  pub span : vol.edge_span (vol.piece_left p) + vol.edge_span (vol.piece_right p) ≤ vol.edge_span e

pub record SoundEdge (vol : Volume) (e : ℕ) : Type 0 where
  pub ends_differ : vol.edge_from e ≢ vol.edge_to e
  pub from_in : vol.edge_from e < vol.junctions
  pub to_in : vol.edge_to e < vol.junctions
  pub one_edge : (d : ℕ) → d < e → vol.edge_from d ≡ vol.edge_from e → vol.edge_to d ≢ vol.edge_to e
  pub some : 0 < vol.edge_pieces e
  pub laid : vol.edge_first e ≡ begins vol.edge_first vol.edge_pieces e
  pub inside : vol.edge_first e + vol.edge_pieces e ≤ vol.pieces
  pub begin : start vol e 0 ≡ 0
  pub rise : (i : ℕ) → i + 1 < vol.edge_pieces e → start vol e i < start vol e (i + 1)
  pub in_period : (i : ℕ) → i < vol.edge_pieces e → start vol e i < vol.period
  pub road_piece : (i : ℕ) → i < vol.edge_pieces e → vol.piece_right (vol.edge_first e + i) ≡ empty
      → RoadPiece vol e (vol.edge_first e + i)
  pub pair_piece : (i : ℕ) → i < vol.edge_pieces e → vol.piece_right (vol.edge_first e + i) ≢ empty
      → PairPiece vol e (vol.edge_first e + i)
  pub span : vol.edge_span e ≤ most_span

pub record Sound (vol : Volume) : Type 0 where
  pub period : 0 < vol.period
  pub junctions_some : 1 ≤ vol.junctions
  pub junctions_few : vol.junctions ≤ 1024
  pub roads_few : vol.roads ≤ 4096
  pub points_few : vol.points ≤ 65535
  pub edges_few : vol.edges ≤ 16384
  pub pieces_few : vol.pieces ≤ 65535
  pub road : (k : ℕ) → k < vol.roads → SoundRoad vol k
  pub edge : (e : ℕ) → e < vol.edges → SoundEdge vol e
