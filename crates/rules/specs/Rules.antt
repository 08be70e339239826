-- The rules of document 01 for a volume, as tests that opening computes: the head, the roads, the edges. A test speaks of the
-- volume's functions alone. What a volume that passes them all obeys, as facts, is in Sound of the crate `volume`.
use Rattle.std.specs.Prelude.{ℕ, zero, suc, ◌+◌, ◌-◌, ◌*◌, ◌/◌, max, Bool, not, List, eqb, leb, ltb}
use Rattle.block.specs.Choose.{choose, both}
use Rattle.block.specs.First.{first_not, all_below}
use Rattle.block.specs.Word.{content_at}
use Rattle.records.specs.Format.{Volume, words_of, counts_of, empty}
use Rattle.records.specs.declared.tables.Counts.{Counts}

-- the longest duration of a point
abbrev pub longest : ℕ
longest = 86400

-- the greatest span of an edge
abbrev pub most_span : ℕ
most_span = 4096

-- the head

-- N 1 to 1,024; R 0 to 4,096; P and Q 0 to 65,535; E 0 to 16,384
unfoldable pub head_fits : Counts → Bool
head_fits c =
    both (leb 1 c.junctions)
    (both (leb c.junctions 1024)
    (both (leb c.roads 4096)
    (both (leb c.points 65535) (both (leb c.edges 16384) (leb c.pieces 65535)))))

-- the blocks are the fewest that hold the words
unfoldable pub fewest_blocks : ℕ → ℕ → Bool
fewest_blocks words blocks = eqb blocks ((words + 125) / 126)

-- the filler, the content words after the volume's own, is zero
unfoldable pub filler_zero : List ℕ → ℕ → ℕ → Bool
filler_zero v words blocks = all_below (126 * blocks - words) (λ i. eqb (content_at v (words + i)) 0)

-- limits, block count and filler
unfoldable pub counts_rule : List ℕ → Volume → ℕ → Bool
counts_rule v vol blocks =
    both (head_fits (counts_of vol))
    (both (fewest_blocks (words_of vol) blocks) (filler_zero v (words_of vol) blocks))

-- what roads and edges share

-- two ends differ and are below N
unfoldable pub ends_fit : ℕ → ℕ → ℕ → Bool
ends_fit junctions from to = both (not (eqb from to)) (both (ltb from junctions) (ltb to junctions))

-- where the parts of record k begin: where those of the record before ended, 0 for record 0
unfoldable pub begins : (ℕ → ℕ) → (ℕ → ℕ) → ℕ → ℕ
begins first number zero = 0
begins first number (suc k) = first k + number k

-- a record has at least one part, its parts begin where they must, and they lie inside their table
unfoldable pub placed : ℕ → ℕ → ℕ → ℕ → Bool
placed begin total first number = both (leb 1 number) (both (eqb first begin) (leb (first + number) total))

-- each of n records obeys its rule, and after the last no part is left over
unfoldable pub all_obey : (ℕ → Bool) → (ℕ → ℕ) → (ℕ → ℕ) → ℕ → ℕ → Bool
all_obey rule first number n total = both (all_below n rule) (eqb (begins first number n) total)

-- roads

-- a point (t₀, f₀) before a point (t₁, f₁): its second lies in the period, its duration is 1 to the longest, the seconds strictly
-- rise, and the duration falls by no more than the seconds between
unfoldable pub point_fits : ℕ → ℕ → ℕ → ℕ → ℕ → Bool
point_fits period t₀ f₀ t₁ f₁ =
    both (ltb t₀ period)
    (both (leb 1 f₀) (both (leb f₀ longest) (both (ltb t₀ t₁) (leb f₀ (f₁ + (t₁ - t₀))))))

-- the n points from point `first` on
module _ (vol : Volume) (first n : ℕ) where
  -- the point after point i: the next one, or after the last the first, a period later
  unfoldable pub next_second : ℕ → ℕ
  next_second i =
      choose (ltb (i + 1) n) (vol.point_second (first + (i + 1))) (vol.point_second (first + 0) + vol.period)

  unfoldable pub next_duration : ℕ → ℕ
  next_duration i = choose (ltb (i + 1) n) (vol.point_duration (first + (i + 1))) (vol.point_duration (first + 0))

  -- point i fits before the point after it
  unfoldable pub point_rule : ℕ → Bool
  point_rule i =
      point_fits vol.period (vol.point_second (first + i)) (vol.point_duration (first + i)) (next_second i) (next_duration i)

module _ (vol : Volume) (k : ℕ) where
  -- second and duration of point i of road k
  abbrev pub second : ℕ → ℕ
  second i = vol.point_second (vol.road_first k + i)

  abbrev pub duration : ℕ → ℕ
  duration i = vol.point_duration (vol.road_first k + i)

  unfoldable pub road_rule : Bool
  road_rule =
      both (ends_fit vol.junctions (vol.road_from k) (vol.road_to k))
      (both
      (placed (begins vol.road_first vol.road_points k) vol.points (vol.road_first k) (vol.road_points k))
      (all_below (vol.road_points k) (point_rule vol (vol.road_first k) (vol.road_points k))))

-- the first road at fault, or R
abbrev pub first_road : Volume → ℕ
first_road vol = first_not (road_rule vol) vol.roads 0

-- every road obeys, and no point is left over
abbrev pub roads_rule : Volume → Bool
roads_rule vol = all_obey (road_rule vol) vol.road_first vol.road_points vol.roads vol.points

-- edges

-- a piece i starts at s, the piece before it at b: the first starts at 0, starts strictly rise and stay below the period
unfoldable pub start_fits : ℕ → ℕ → ℕ → ℕ → Bool
start_fits period i b s = both (choose (eqb i 0) (eqb s 0) (ltb b s)) (ltb s period)

-- k is a road from `from` to `to`
unfoldable pub road_joins : Volume → ℕ → ℕ → ℕ → Bool
road_joins vol k from to =
    both (ltb k vol.roads) (both (eqb (vol.road_from k) from) (eqb (vol.road_to k) to))

-- an edge from l₀ to l₁ and one from r₀ to r₁ lead in turn from `from` to `to`, and meet at a middle of lower rank than both
unfoldable pub meet : ℕ → ℕ → ℕ → ℕ → ℕ → ℕ → Bool
meet l₀ l₁ r₀ r₁ from to = both (eqb l₀ from) (both (eqb r₁ to) (both (eqb l₁ r₀) (both (ltb l₁ from) (ltb l₁ to))))

-- l and r are edges of smaller number than e, and lead so from `from` to `to`
unfoldable pub pair_joins : Volume → ℕ → ℕ → ℕ → ℕ → ℕ → Bool
pair_joins vol e l r from to =
    both (ltb l e)
    (both (ltb r e) (meet (vol.edge_from l) (vol.edge_to l) (vol.edge_from r) (vol.edge_to r) from to))

module _ (vol : Volume) (e : ℕ) where
  -- the starting second of piece i of edge e
  abbrev pub start : ℕ → ℕ
  start i = vol.piece_start (vol.edge_first e + i)

  -- an earlier edge d has the same two ends in the same order
  unfoldable pub same_ends : ℕ → Bool
  same_ends d = both (eqb (vol.edge_from d) (vol.edge_from e)) (eqb (vol.edge_to d) (vol.edge_to e))

  -- no earlier edge has
  unfoldable pub new_ends : Bool
  new_ends = all_below e (λ d. not (same_ends d))

  -- what piece p holds fits the edge: with an empty middle a road, otherwise two edges
  unfoldable pub piece_fits : ℕ → Bool
  piece_fits p =
      choose (eqb (vol.piece_right p) empty)
      (road_joins vol (vol.piece_left p) (vol.edge_from e) (vol.edge_to e))
      (pair_joins vol e (vol.piece_left p) (vol.piece_right p) (vol.edge_from e) (vol.edge_to e))

  -- piece i starts when it must, and fits
  unfoldable pub piece_rule : ℕ → Bool
  piece_rule i = both (start_fits vol.period i (start (i - 1)) (start i)) (piece_fits (vol.edge_first e + i))

-- a piece's span is 1 for a road, else the sum of its two edges' spans
unfoldable pub piece_span : Volume → ℕ → ℕ
piece_span vol p =
    choose (eqb (vol.piece_right p) empty) 1 (vol.edge_span (vol.piece_left p) + vol.edge_span (vol.piece_right p))

-- the greatest span of the n pieces from piece p on
unfoldable pub greatest_span : Volume → ℕ → ℕ → ℕ
greatest_span vol p zero = 0
greatest_span vol p (suc n) = max (greatest_span vol p n) (piece_span vol (p + n))

-- the edge's span is the greatest of its pieces' and at most 4,096
unfoldable pub span_rule : Volume → ℕ → Bool
span_rule vol e =
    both (eqb (vol.edge_span e) (greatest_span vol (vol.edge_first e) (vol.edge_pieces e))) (leb (vol.edge_span e) most_span)

unfoldable pub edge_rule : Volume → ℕ → Bool
edge_rule vol e =
    both (ends_fit vol.junctions (vol.edge_from e) (vol.edge_to e))
    (both (new_ends vol e)
    (both
    (placed (begins vol.edge_first vol.edge_pieces e) vol.pieces (vol.edge_first e) (vol.edge_pieces e))
    (both (all_below (vol.edge_pieces e) (piece_rule vol e)) (span_rule vol e))))

-- the first edge at fault, or E
abbrev pub first_edge : Volume → ℕ
first_edge vol = first_not (edge_rule vol) vol.edges 0

-- every edge obeys, and no piece is left over
abbrev pub edges_rule : Volume → Bool
edges_rule vol = all_obey (edge_rule vol) vol.edge_first vol.edge_pieces vol.edges vol.pieces
