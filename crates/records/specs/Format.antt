-- What the content words of a volume mean: the head, the roads, the points, the edges and the pieces, as plain functions of a
-- number. The rules and everything above speak of this record and never of bytes. The sizes of the records and the period stand
-- here alone.
use Rattle.std.specs.Prelude.{ℕ, ◌+◌, ◌*◌, ◌/◌, ◌^◌, ◌≤◌, ◌<◌, ◌≡◌, ◌≢◌, refl, List, length}
use Rattle.block.specs.Word.{content_at, most_words}
use Rattle.records.specs.declared.tables.Counts.{Counts}
use Rattle.records.specs.declared.tables.Tables.{Tables}
use Rattle.records.specs.declared.tables.Road.{Road}
use Rattle.records.specs.declared.tables.Point.{Point}
use Rattle.records.specs.declared.tables.Edge.{Edge}
use Rattle.records.specs.declared.tables.Way.{Way}
use Rattle.records.specs.declared.tables.Way.TheVariants.{Road as ByRoad, Turn}
use Rattle.records.specs.declared.tables.Piece.{Piece}

-- the seconds of a day
abbrev pub day : ℕ
day = 86400

-- what a volume holds; `period` is after how many seconds its roads and edges repeat
pub record Volume : Type 0 where
  pub period : ℕ
  pub edition : ℕ
  pub junctions : ℕ
  pub roads : ℕ
  pub points : ℕ
  pub edges : ℕ
  pub pieces : ℕ
  pub road_from : ℕ → ℕ
  pub road_to : ℕ → ℕ
  pub road_first : ℕ → ℕ
  pub road_points : ℕ → ℕ
  pub point_second : ℕ → ℕ
  pub point_duration : ℕ → ℕ
  pub edge_from : ℕ → ℕ
  pub edge_to : ℕ → ℕ
  pub edge_first : ℕ → ℕ
  pub edge_pieces : ℕ → ℕ
  pub edge_span : ℕ → ℕ
  pub piece_start : ℕ → ℕ
  pub piece_left : ℕ → ℕ
  pub piece_right : ℕ → ℕ

-- how many content words a road, a point, an edge and a piece have

abbrev pub road_words : ℕ
road_words = 4

abbrev pub point_words : ℕ
point_words = 2

abbrev pub edge_words : ℕ
edge_words = 5

abbrev pub piece_words : ℕ
piece_words = 3

-- where each table begins, as a content word: after a head of 6 words

abbrev pub roads_at : ℕ
roads_at = 6

abbrev pub points_at : ℕ → ℕ
points_at roads = roads_at + road_words * roads

abbrev pub edges_at : ℕ → ℕ → ℕ
edges_at roads points = points_at roads + point_words * points

abbrev pub pieces_at : ℕ → ℕ → ℕ → ℕ
pieces_at roads points edges = edges_at roads points + edge_words * edges

-- how many content words there are in all, by the counts
abbrev pub words_in : Counts → ℕ
words_in c = pieces_at c.roads c.points c.edges + piece_words * c.pieces

abbrev pub tables_of : Counts → Tables
tables_of c = record {
  points = points_at c.roads;
  edges = edges_at c.roads c.points;
  pieces = pieces_at c.roads c.points c.edges;
}

-- the counts are within the limits of the head
pub record Few (c : Counts) : Type 0 where
  pub junctions_some : 1 ≤ c.junctions
  pub junctions : c.junctions ≤ 1024
  pub roads : c.roads ≤ 4096
  pub points : c.points ≤ 65535
  pub edges : c.edges ≤ 16384
  pub pieces : c.pieces ≤ 65535

-- the volume that the bytes hold
unfoldable pub volume_of : List ℕ → Volume
volume_of v =
    let word = content_at v in
    let pointsFrom = points_at (word 2) in
    let edgesFrom = edges_at (word 2) (word 3) in
    let pieces_from = pieces_at (word 2) (word 3) (word 4) in
    record {
      period = day;
      edition = word 0;
      junctions = word 1;
      roads = word 2;
      points = word 3;
      edges = word 4;
      pieces = word 5;
      road_from = λ k. word (roads_at + road_words * k);
      road_to = λ k. word (roads_at + road_words * k + 1);
      road_first = λ k. word (roads_at + road_words * k + 2);
      road_points = λ k. word (roads_at + road_words * k + 3);
      point_second = λ i. word (pointsFrom + point_words * i);
      point_duration = λ i. word (pointsFrom + point_words * i + 1);
      edge_from = λ e. word (edgesFrom + edge_words * e);
      edge_to = λ e. word (edgesFrom + edge_words * e + 1);
      edge_first = λ e. word (edgesFrom + edge_words * e + 2);
      edge_pieces = λ e. word (edgesFrom + edge_words * e + 3);
      edge_span = λ e. word (edgesFrom + edge_words * e + 4);
      piece_start = λ p. word (pieces_from + piece_words * p);
      piece_left = λ p. word (pieces_from + piece_words * p + 1);
      piece_right = λ p. word (pieces_from + piece_words * p + 2);
    }

-- N, R, P, E and Q
abbrev pub counts_of : Volume → Counts
counts_of vol = record {
  junctions = vol.junctions;
  roads = vol.roads;
  points = vol.points;
  edges = vol.edges;
  pieces = vol.pieces;
}

-- c holds the counts of the volume
pub record Counted (vol : Volume) (c : Counts) : Type 0 where
  pub junctions : c.junctions ≡ vol.junctions
  pub roads : c.roads ≡ vol.roads
  pub points : c.points ≡ vol.points
  pub edges : c.edges ≡ vol.edges
  pub pieces : c.pieces ≡ vol.pieces

abbrev pub words_of : Volume → ℕ
words_of vol = words_in (counts_of vol)

-- t says where the tables of the volume in v begin, and v holds all of its words, which are no more than a volume can have
pub record Laid (v : List ℕ) (t : Tables) : Type 0 where
  pub points : t.points ≡ points_at (volume_of v).roads
  pub edges : t.edges ≡ edges_at (volume_of v).roads (volume_of v).points
  pub pieces : t.pieces ≡ pieces_at (volume_of v).roads (volume_of v).points (volume_of v).edges
  pub room : words_of (volume_of v) ≤ 126 * (length v / 512)
  pub limit : words_of (volume_of v) ≤ most_words

-- q is road k
pub record IsRoad (vol : Volume) (k : ℕ) (q : Road) : Type 0 where
  pub from : q.from ≡ vol.road_from k
  pub to : q.to ≡ vol.road_to k
  pub first : q.first ≡ vol.road_first k
  pub points : q.points ≡ vol.road_points k
  pub first_fits : q.first < 2 ^ 32
  pub points_fit : q.points < 2 ^ 32

-- q is point i
pub record IsPoint (vol : Volume) (i : ℕ) (q : Point) : Type 0 where
  pub second : q.second ≡ vol.point_second i
  pub duration : q.duration ≡ vol.point_duration i
  pub second_fits : q.second < 2 ^ 32
  pub duration_fits : q.duration < 2 ^ 32

-- q is edge e
pub record IsEdge (vol : Volume) (e : ℕ) (q : Edge) : Type 0 where
  pub from : q.from ≡ vol.edge_from e
  pub to : q.to ≡ vol.edge_to e
  pub first : q.first ≡ vol.edge_first e
  pub pieces : q.pieces ≡ vol.edge_pieces e
  pub span : q.span ≡ vol.edge_span e
  pub from_fits : q.from < 2 ^ 32
  pub to_fits : q.to < 2 ^ 32
  pub first_fits : q.first < 2 ^ 32
  pub pieces_fit : q.pieces < 2 ^ 32
  pub span_fits : q.span < 2 ^ 32

-- the right of a piece with an empty middle
abbrev pub empty : ℕ
empty = 4294967295

-- how a piece with that left and right goes: with an empty middle by the road `left`, otherwise by two edges in turn
abbrev pub IsWay : ℕ → ℕ → Way → Type 0
IsWay left right (ByRoad k) = (right ≡ empty) × (k ≡ left) × (k < 2 ^ 32)
IsWay left right (Turn l r) = (right ≢ empty) × (l ≡ left) × (r ≡ right) × (l < 2 ^ 32) × (r < 2 ^ 32)

-- q is piece p
pub record IsPiece (vol : Volume) (p : ℕ) (q : Piece) : Type 0 where
  pub start : q.start ≡ vol.piece_start p
  pub start_fits : q.start < 2 ^ 32
  pub way : IsWay (vol.piece_left p) (vol.piece_right p) q.way

-- a volume repeats every day
pub period_is : (v : List ℕ) → (volume_of v).period ≡ day
unfolding volume_of
period_is v = refl
