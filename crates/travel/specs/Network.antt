-- A volume as the theory's network: its roads by the durations of their points, its edges by the piece in force. A sound volume is a
-- sound network, and its edges take no longer than the longest duration for each road of their span; so the theory's promises
-- apply to a volume's bytes. Callers use the laws here and do not open `network_of`.
use Rattle.std.specs.Prelude.{ℕ, ◌+◌, ◌-◌, ◌*◌, ◌%◌, ◌^◌, ◌≤◌, ◌<◌, ◌≡◌, ◌≢◌, List, eqb}
use Rattle.std.proofs.Math.Path.{refl}
use Rattle.std.proofs.Common.{ap, sym, eq-eqb, ne_eqb}
use Rattle.std.proofs.Math.Decide.{dec_lt, ℕ_discrete}
use native.Mathlib.Omega.{arith}
use Rattle.block.specs.Choose.{choose, choose_yes, choose_no}
use Rattle.theory.specs.Network.{Piece, road_of, pair_of, Network, by_piece, edge_arr, Fits, SoundNetwork, Spans, Bounded}
use Rattle.theory.specs.Unfold.{roads_of_edge}
use Rattle.records.specs.Format.{Volume, empty}
use Rattle.rules.specs.Rules.{longest, second, duration, start}
use Rattle.volume.specs.Sound.{RoadPiece, PairPiece, Sound}
use Rattle.travel.specs.Last.{last_le, last_is_last}
use Rattle.travel.specs.Road.{road_duration}
use Rattle.travel.specs.RoadLaws.{road_lasts, road_short, road_fifo_day, road_fifo_over}

module _ (vol : Volume) where
  -- the duration of road k at second t of the period
  unfoldable pub duration_at : ℕ → ℕ → ℕ
  duration_at k t = road_duration vol.period (vol.road_points k) (second vol k) (duration vol k) t

  -- the number of edge e's piece in force at second t of the period: the last one that starts at or before t
  unfoldable pub piece_at : ℕ → ℕ → ℕ
  piece_at e t = vol.edge_first e + last_le (start vol e) (vol.edge_pieces e) t

  -- what piece p is: with an empty middle a road, otherwise two edges
  unfoldable pub piece_of : ℕ → Piece
  piece_of p =
      choose (eqb (vol.piece_right p) empty) (road_of (vol.piece_left p)) (pair_of (vol.piece_left p) (vol.piece_right p))

  -- the volume as a network
  unfoldable pub network_of : Network
  network_of = record {
    period = vol.period;
    junctions = vol.junctions;
    roads = vol.roads;
    road_from = vol.road_from;
    road_to = vol.road_to;
    duration = duration_at;
    edges = vol.edges;
    edge_from = vol.edge_from;
    edge_to = vol.edge_to;
    in_force = λ e t. piece_of (piece_at e t);
  }

  -- its fields

  pub period_of : network_of.period ≡ vol.period
  unfolding network_of
  period_of = refl

  pub junctions_of : network_of.junctions ≡ vol.junctions
  unfolding network_of
  junctions_of = refl

  pub roads_of_lem : network_of.roads ≡ vol.roads
  unfolding network_of
  roads_of_lem = refl

  pub road_from_of : network_of.road_from ≡ vol.road_from
  unfolding network_of
  road_from_of = refl

  pub road_to_of : network_of.road_to ≡ vol.road_to
  unfolding network_of
  road_to_of = refl

  pub edges_of : network_of.edges ≡ vol.edges
  unfolding network_of
  edges_of = refl

  pub edge_from_of : network_of.edge_from ≡ vol.edge_from
  unfolding network_of
  edge_from_of = refl

  pub edge_to_of : network_of.edge_to ≡ vol.edge_to
  unfolding network_of
  edge_to_of = refl

  pub duration_of : (k t : ℕ) → network_of.duration k t ≡ duration_at k t
  unfolding network_of
  duration_of k t = refl

  pub in_force_of : (e t : ℕ) → network_of.in_force e t ≡ piece_of (piece_at e t)
  unfolding network_of
  in_force_of e t = refl

  -- a piece with an empty middle, and one of two edges
  pub piece_road : (p : ℕ) → vol.piece_right p ≡ empty → piece_of p ≡ road_of (vol.piece_left p)
  unfolding piece_of
  piece_road p e = choose_yes _ _ (eq-eqb _ _ e)

  pub piece_pair : (p : ℕ) → vol.piece_right p ≢ empty → piece_of p ≡ pair_of (vol.piece_left p) (vol.piece_right p)
  unfolding piece_of
  piece_pair p n = choose_no _ _ (ne_eqb _ _ n)

-- the duration of road k entered at x, any second: it repeats with the period
abbrev pub road_time : Volume → ℕ → ℕ → ℕ
road_time vol k x = (network_of vol).duration k (x % vol.period)

-- x is the same second of the period, whichever name the period has
pub same_second : (x : ℕ) {p q : ℕ} → p ≡ q → x % q ≡ x % p
same_second x e = ap (λ (p : ℕ). x % p) (sym e)

-- the arrival over edge e entered at x
abbrev pub arrival : Volume → ℕ → ℕ → ℕ
arrival vol e x = edge_arr (network_of vol) e x

-- the arrival by piece p entered at x
abbrev pub piece_arrival : Volume → ℕ → ℕ → ℕ
piece_arrival vol p x = by_piece (network_of vol) (edge_arr (network_of vol)) x (piece_of vol p)

-- the roads of edge e entered at x
abbrev pub roads_of : Volume → ℕ → ℕ → List ℕ
roads_of vol e x = roads_of_edge (network_of vol) e x

-- p is one of edge e's pieces
pub record HasPiece (vol : Volume) (e p : ℕ) : Type 0 where
  pub low : vol.edge_first e ≤ p
  pub high : p < vol.edge_first e + vol.edge_pieces e

-- edge e is there, and who enters it at x arrives within 63 bits, however long its roads take
pub record Enters (vol : Volume) (e x : ℕ) : Type 0 where
  pub there : e < vol.edges
  pub fits : x + longest * vol.edge_span e < 2 ^ 63

module _ (vol : Volume) (S : Sound vol) where
  -- the piece in force is one of the edge's
  pub has_piece : (e t : ℕ) → e < vol.edges → HasPiece vol e (piece_at vol e t)
  unfolding piece_at
  has_piece e t h =
      let E = S.edge e h in
      let l = last_is_last (start vol e) (vol.edge_pieces e) t E.some (omega (arith, E.begin)) in
      record { low = omega arith; high = omega (arith, l.below) }

  -- what a piece of an edge holds, by the piece's own number
  pub road_at : (e p : ℕ) → e < vol.edges → HasPiece vol e p → vol.piece_right p ≡ empty → RoadPiece vol e p
  road_at e p h of r =
      let q : vol.edge_first e + (p - vol.edge_first e) ≡ p = omega (arith, of.low) in
      rw q at ((S.edge e h).road_piece (p - vol.edge_first e) (omega (arith, of.low, of.high)) (rw q r))

  pub pair_at : (e p : ℕ) → e < vol.edges → HasPiece vol e p → vol.piece_right p ≢ empty → PairPiece vol e p
  pair_at e p h of n =
      let q : vol.edge_first e + (p - vol.edge_first e) ≡ p = omega (arith, of.low) in
      rw q at ((S.edge e h).pair_piece (p - vol.edge_first e) (omega (arith, of.low, of.high)) (rw q n))

  -- every piece of an edge fits it, and the edge's span respects it
  piece_fits_lem : (e p : ℕ) → e < vol.edges → HasPiece vol e p
      → Fits (network_of vol) e (piece_of vol p) × Spans (network_of vol) vol.edge_span e (piece_of vol p)
  unfolding network_of
  piece_fits_lem e p h of = go (ℕ_discrete (vol.piece_right p) empty)
    where
      go : Dec (vol.piece_right p ≡ empty)
          → Fits (network_of vol) e (piece_of vol p) × Spans (network_of vol) vol.edge_span e (piece_of vol p)
      go (yes r) =
          let k = road_at e p h of r in
          rw (piece_road vol p r) ((k.road, k.from, k.to), k.span)
      go (no n) =
          let k = pair_at e p h of n in
          rw (piece_pair vol p n) ((k.left, k.right, k.from, k.to, k.meet, k.below_from, k.below_to), k.span)

  -- a sound volume is a sound network
  pub sound_network : SoundNetwork (network_of vol)
  unfolding network_of duration_at
  sound_network = record {
    period_some = S.period;
    lasts = λ k t h l. road_lasts _ _ _ _ (S.road k h).points t l;
    fifo_day = λ k s t h l m. road_fifo_day _ _ _ _ (S.road k h).points s t l m;
    fifo_over = λ k s t h l m. road_fifo_over _ _ _ _ (S.road k h).points s t l m;
    ends_differ = λ e h. (S.edge e h).ends_differ;
    from_in = λ e h. (S.edge e h).from_in;
    to_in = λ e h. (S.edge e h).to_in;
    one_edge = one_edge;
    fits = λ e t h l. (piece_fits_lem e (piece_at vol e t) h (has_piece e t h)).0;
  }
    where
      one_edge : (d e : ℕ) → d < vol.edges → e < vol.edges → vol.edge_from d ≡ vol.edge_from e → vol.edge_to d ≡ vol.edge_to e
          → d ≡ e
      one_edge d e a b f t = go (dec_lt d e) (dec_lt e d)
        where
          go : Dec (d < e) → Dec (e < d) → d ≡ e
          go (yes l) k = absurd ((S.edge e b).one_edge d l f t)
          go (no g) (yes l) = absurd ((S.edge d a).one_edge e l (sym f) (sym t))
          go (no g) (no k) = omega arith

  -- with the longest duration and the edges' spans as bounds
  pub bounded : Bounded (network_of vol) longest vol.edge_span
  unfolding network_of duration_at
  bounded = record {
    short = λ k t h l. road_short _ _ _ _ (S.road k h).points t l;
    spans = λ e t h l. (piece_fits_lem e (piece_at vol e t) h (has_piece e t h)).1;
  }
