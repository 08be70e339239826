-- The two ways from 1 to 2, road 2 and edges 0 and 1 in turn, second by second of the day: the comparison on which "late at 70,806"
-- and "full" turn. It speaks of what the sample and the network with one piece share; edge 2 itself is in Verdicts.
use Rattle.std.specs.Prelude.{ℕ, zero, suc, ◌+◌, ◌-◌, ◌*◌, ◌/◌, ◌%◌, ◌≤◌, ◌<◌, ◌≡◌}
use Rattle.std.proofs.Math.Path.{refl}
use Rattle.std.proofs.Common.{ap, sym, ◌∙◌, mod-lt}
use Rattle.std.proofs.Math.Decide.{dec_lt}
use Rattle.std.proofs.Math.Nat.{sub-zero}
use native.Mathlib.Omega.{arith}
use Rattle.theory.specs.Network.{Piece, road_of, pair_of}
use Rattle.records.specs.Format.{Volume, volume_of, day}
use Rattle.rules.specs.Rules.{second, duration}
use Rattle.volume.specs.Sound.{Sound}
use Rattle.travel.specs.Last.{IsLast, last_is}
use Rattle.travel.specs.Road.{between, from_point, road_duration}
use Rattle.travel.specs.Lines.{right_next, right_over}
use Rattle.travel.specs.RoadLaws.{road_late, road_one}
use Rattle.travel.specs.Network.{duration_at, piece_at, piece_of, network_of, road_time, arrival, has_piece}
use Rattle.travel.specs.Halves.{edge_by_piece}
use Rattle.full.specs.Cover.{arrival_by}
use Rattle.sample.specs.Bytes.{sample, one_piece}
use Rattle.sample.specs.Computing.{computing}
use Rattle.sample.specs.Opens.{sample_sound, one_piece_sound}

-- edge e has one piece, number e, which is q
pub record Alone (vol : Volume) (e : ℕ) (q : Piece) : Type 0 where
  pub first : vol.edge_first e ≡ e
  pub one : vol.edge_pieces e ≡ 1
  pub piece : piece_of vol e ≡ q

-- what both networks are: three roads with their points, three edges of which 0 and 1 are roads
pub record Shared (vol : Volume) : Type 0 where
  pub sound : Sound vol
  pub daily : vol.period ≡ day
  pub three_roads : vol.roads ≡ 3
  pub three_edges : vol.edges ≡ 3
  pub points : (vol.road_points 0 ≡ 1) × (vol.road_points 1 ≡ 2) × (vol.road_points 2 ≡ 1)
  pub road_0 : duration vol 0 0 ≡ 60
  pub road_1_first : (second vol 1 0 ≡ 0) × (duration vol 1 0 ≡ 100)
  pub road_1_last : (second vol 1 1 ≡ 100) × (duration vol 1 1 ≡ 50)
  pub road_2 : duration vol 2 0 ≡ 150
  pub edge_0 : Alone vol 0 (road_of 0)
  pub edge_1 : Alone vol 1 (road_of 1)
  -- edge k has the ends of road k
  pub starts : (k : ℕ) → k < 3 → vol.edge_from k ≡ vol.road_from k
  pub ends : (k : ℕ) → k < 3 → vol.edge_to k ≡ vol.road_to k

-- what holds of 0, 1 and 2 holds of each number below 3
pub three : (P : ℕ → Type 0) → P 0 → P 1 → P 2 → (i : ℕ) → i < 3 → P i
three P a b c zero h = a
three P a b c (suc zero) h = b
three P a b c (suc (suc zero)) h = c
three P a b c (suc (suc (suc i))) h = absurd (omega arith)

-- the sample is such a network, by computation
pub sample_shared : Shared (volume_of sample)
unfolding computing
sample_shared = record {
  sound = sample_sound;
  daily = refl;
  three_roads = refl;
  three_edges = refl;
  points = (refl, refl, refl);
  road_0 = refl;
  road_1_first = (refl, refl);
  road_1_last = (refl, refl);
  road_2 = refl;
  edge_0 = record { first = refl; one = refl; piece = refl };
  edge_1 = record { first = refl; one = refl; piece = refl };
  starts = three (λ k. (volume_of sample).edge_from k ≡ (volume_of sample).road_from k) refl refl refl;
  ends = three (λ k. (volume_of sample).edge_to k ≡ (volume_of sample).road_to k) refl refl refl;
}

-- and so is the one whose edge 2 has its first piece alone
pub one_piece_shared : Shared (volume_of one_piece)
unfolding computing
one_piece_shared = record {
  sound = one_piece_sound;
  daily = refl;
  three_roads = refl;
  three_edges = refl;
  points = (refl, refl, refl);
  road_0 = refl;
  road_1_first = (refl, refl);
  road_1_last = (refl, refl);
  road_2 = refl;
  edge_0 = record { first = refl; one = refl; piece = refl };
  edge_1 = record { first = refl; one = refl; piece = refl };
  starts = three (λ k. (volume_of one_piece).edge_from k ≡ (volume_of one_piece).road_from k) refl refl refl;
  ends = three (λ k. (volume_of one_piece).edge_to k ≡ (volume_of one_piece).road_to k) refl refl refl;
}

-- a road with two points, at a second t from the first one on: before the second point, and from it on
module _ (period : ℕ) (s d : ℕ → ℕ) (t : ℕ) (begin : s 0 ≤ t) where
  two_before : t < s 1 → road_duration period 2 s d t ≡ between (s 0) (d 0) (s 1) (d 1) t
  unfolding from_point
  two_before h =
      let last : IsLast s 2 t 0 = record {
        below = omega arith;
        le = begin;
        above = λ j a b. let e : j ≡ 1 = omega arith in rw e h;
      } in
      let q = right_next period 2 s d 0 (omega arith) in
      road_late period 2 s d t 0 begin (sym (last_is s 2 t 0 last)) ∙ rw (q.0, q.1) refl

  two_after : s 1 ≤ t → road_duration period 2 s d t ≡ between (s 1) (d 1) (s 0 + period) (d 0) t
  unfolding from_point
  two_after h =
      let last : IsLast s 2 t 1 = record { below = omega arith; le = h; above = λ j a b. absurd (omega arith) } in
      let q = right_over period 2 s d 1 (omega arith) in
      road_late period 2 s d t 1 begin (sym (last_is s 2 t 1 last)) ∙ rw (q.0, q.1) refl

module _ (vol : Volume) (H : Shared vol) where
  -- Roads

  -- a road with one point is a constant
  constant : (k : ℕ) → k < 3 → vol.road_points k ≡ 1 → (x : ℕ) → road_time vol k x ≡ duration vol k 0
  unfolding network_of duration_at
  constant k h one x =
      road_one vol.period (vol.road_points k) (second vol k) (duration vol k)
      (H.sound.road k (omega (arith, H.three_roads))).points (x % vol.period) (mod-lt x H.sound.period) one

  -- road 1, by the second of day
  by_points : (x : ℕ) → road_time vol 1 x ≡ road_duration day 2 (second vol 1) (duration vol 1) (x % day)
  unfolding network_of duration_at
  by_points x = rw (H.daily, H.points.1)

  -- it quickens up to second 100
  quickens : (x : ℕ) → x % day < 100 → road_time vol 1 x ≡ (100 * (100 - x % day) + 50 * (x % day)) / 100
  unfolding between
  quickens x h =
      let a = H.road_1_first in
      let b = H.road_1_last in
      by_points x
      ∙ two_before day (second vol 1) (duration vol 1) (x % day) (omega arith) (omega arith)
      ∙ rw (a.0, a.1, b.0, b.1, sub-zero (x % day)) refl

  -- and slows from there on to midnight
  slows : (x : ℕ) → 100 ≤ x % day → road_time vol 1 x ≡ (50 * (day - x % day) + 100 * (x % day - 100)) / (day - 100)
  unfolding between
  slows x h =
      let a = H.road_1_first in
      let b = H.road_1_last in
      by_points x
      ∙ two_after day (second vol 1) (duration vol 1) (x % day) (omega arith) (omega arith)
      ∙ rw (a.0, a.1, b.0, b.1) refl

  -- Edges

  -- an edge with one piece arrives as the piece does
  pub alone_arrives : (e x : ℕ) (q : Piece) → e < 3 → Alone vol e q → arrival vol e x ≡ arrival_by vol q x
  alone_arrives e x q h o =
      let there : e < vol.edges = omega (arith, H.three_edges) in
      let p = has_piece vol H.sound e (x % vol.period) there in
      let is : e ≡ piece_at vol e (x % vol.period) = omega (arith, p.low, p.high, o.first, o.one) in
      edge_by_piece vol H.sound e x e there is ∙ ap (λ (r : Piece). arrival_by vol r x) o.piece

  -- The two ways, entered at x

  -- a road takes its duration
  road_arrives : (k x : ℕ) → arrival_by vol (road_of k) x ≡ x + road_time vol k x
  unfolding network_of
  road_arrives k x = refl

  -- road 2 takes 150
  by_road : (x : ℕ) → arrival_by vol (road_of 2) x ≡ x + 150
  by_road x = road_arrives 2 x ∙ ap (λ (d : ℕ). x + d) (constant 2 (omega arith) H.points.2 x ∙ H.road_2)

  -- edges 0 and 1 in turn take 60, and then what road 1 takes
  by_turn : (x : ℕ) → arrival_by vol (pair_of 0 1) x ≡ x + 60 + road_time vol 1 (x + 60)
  by_turn x =
      let sixty : road_time vol 0 x ≡ 60 = constant 0 (omega arith) H.points.0 x ∙ H.road_0 in
      let left : arrival vol 0 x ≡ x + 60 =
      alone_arrives 0 x (road_of 0) (omega arith) H.edge_0 ∙ road_arrives 0 x ∙ ap (λ (d : ℕ). x + d) sixty in
      ap (arrival vol 1) left ∙ alone_arrives 1 (x + 60) (road_of 1) (omega arith) H.edge_1 ∙ road_arrives 1 (x + 60)

  -- up to 70,806 road 2 is no faster
  pub turn_first : (x : ℕ) → x < 70806 → arrival_by vol (pair_of 0 1) x ≤ arrival_by vol (road_of 2) x
  turn_first x h = go (dec_lt ((x + 60) % day) 100)
    where
      go : Dec ((x + 60) % day < 100) → arrival_by vol (pair_of 0 1) x ≤ arrival_by vol (road_of 2) x
      go (yes l) = rw (by_turn x, by_road x, quickens (x + 60) l) (omega arith)
      go (no g) = rw (by_turn x, by_road x, slows (x + 60) (omega arith)) (omega arith)

  -- from there up to 86,359 it is faster
  pub road_first : (x : ℕ) → 70806 ≤ x → x < 86359 → arrival_by vol (road_of 2) x < arrival_by vol (pair_of 0 1) x
  road_first x low high = go (dec_lt ((x + 60) % day) 100)
    where
      go : Dec ((x + 60) % day < 100) → arrival_by vol (road_of 2) x < arrival_by vol (pair_of 0 1) x
      go (yes l) = rw (by_turn x, by_road x, quickens (x + 60) l) (omega arith)
      go (no g) = rw (by_turn x, by_road x, slows (x + 60) (omega arith)) (omega arith)

  -- and then again no faster
  pub turn_last : (x : ℕ) → 86359 ≤ x → x < day → arrival_by vol (pair_of 0 1) x ≤ arrival_by vol (road_of 2) x
  turn_last x low high = rw (by_turn x, by_road x, quickens (x + 60) (omega arith)) (omega arith)
