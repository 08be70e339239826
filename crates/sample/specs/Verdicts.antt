-- What the full check answers for the sample network, and for the one whose edge 2 has its first piece alone. Edges 0 and 1 are roads 0
-- and 1; edge 2 is compared with the two ways from 1 to 2 piece by piece, as Rivals compares them. What an answer of the check says is
-- the crate `full`'s; here it is shown to hold.
use Rattle.std.specs.Prelude.{ℕ, ◌+◌, ◌≤◌, ◌<◌, ◌≡◌, refl, Some, None, Ok}
use Rattle.std.proofs.Math.Path.{ap}
use Rattle.std.proofs.Common.{sym, ◌∙◌, mod-eq_of_lt, arith}
use Rattle.std.proofs.Math.Decide.{dec_lt}
use Rattle.theory.specs.Network.{Piece, road_of, pair_of, FullDay}
use Rattle.records.specs.Format.{Volume, volume_of}
use Rattle.rules.specs.Rules.{start}
use Rattle.travel.specs.Last.{IsLast, last_is, above_from}
use Rattle.travel.specs.Network.{piece_at, piece_of, network_of, arrival}
use Rattle.travel.specs.Halves.{edge_by_piece}
use Rattle.full.specs.Cover.{arrival_by}
use Rattle.full.specs.Fault.{verdict_of}
use Rattle.full.specs.Means.{RoadSays, PairSays, Pair}
use Rattle.full.proofs.FaultMeans.{holds_once}
use Rattle.full.specs.declared.cover.Flaw.TheVariants.{Late}
use Rattle.full.specs.declared.Fault.TheVariants.{RoadLate}
use Rattle.sample.specs.Bytes.{sample, one_piece}
use Rattle.sample.specs.Computing.{computing}
use Rattle.sample.specs.Opens.{sample_counts, one_piece_counts, sample_opens, one_piece_opens}
use Rattle.sample.specs.Rivals.{Alone, Shared, three, sample_shared, one_piece_shared, alone_arrives, turn_first, road_first, turn_last}

-- Both networks

module _ (vol : Volume) (H : Shared vol) where
  -- a road is covered where the edge of its number is no slower
  covered : (k : ℕ) → k < 3 → ((x : ℕ) → x < vol.period → arrival vol k x ≤ arrival_by vol (road_of k) x) → RoadSays vol k None
  unfolding network_of
  covered k h all = record {
    edge = k;
    there = omega (arith, H.three_edges);
    starts = H.starts k h;
    ends = H.ends k h;
    never_slower = all;
  }

  -- and so where that edge is the road alone
  own_edge : (k : ℕ) → k < 3 → Alone vol k (road_of k) → RoadSays vol k None
  own_edge k h o = covered k h (λ x l. omega (arith, alone_arrives vol H k x (road_of k) h o))

-- Edge 2 with its first piece alone

-- it is edges 0 and 1 in turn
one_piece_turn : Alone (volume_of one_piece) 2 (pair_of 0 1)
unfolding computing
one_piece_turn = record { first = refl; one = refl; piece = refl }

-- road 2 is late at 70,806, and not before
one_piece_late : RoadSays (volume_of one_piece) 2 (Some (Late 70806))
one_piece_late =
    let vol = volume_of one_piece in
    let H = one_piece_shared in
    let turn : (x : ℕ) → arrival vol 2 x ≡ arrival_by vol (pair_of 0 1) x =
    λ x. alone_arrives vol H 2 x (pair_of 0 1) (omega arith) one_piece_turn in
    record {
      edge = 2;
      there = omega (arith, H.three_edges);
      starts = H.starts 2 (omega arith);
      ends = H.ends 2 (omega arith);
      in_period = omega (arith, H.daily);
      late = omega (arith, turn 70806, road_first vol H 70806 (omega arith) (omega arith));
      earliest = λ y l. omega (arith, turn y, turn_first vol H y l);
    }

-- the check says so: the roads before it are covered
pub one_piece_verdict : verdict_of one_piece ≡ Ok (Some (RoadLate 2 70806))
one_piece_verdict =
    let vol = volume_of one_piece in
    let H = one_piece_shared in
    let zeroth = own_edge vol H 0 (omega arith) H.edge_0 in
    let first = own_edge vol H 1 (omega arith) H.edge_1 in
    let before : (k : ℕ) → k < 3 → k < 2 → RoadSays vol k None =
    three (λ k. k < 2 → RoadSays vol k None) (λ l. zeroth) (λ l. first) (λ l. absurd (omega arith)) in
    holds_once one_piece (Ok (Some (RoadLate 2 70806))) (
      (one_piece_counts, one_piece_opens),
      record { there = omega (arith, H.three_roads); before = λ k l. before k (omega arith) l; says = one_piece_late },
    )

-- so it is not full
pub one_piece_not_full : FullDay (network_of (volume_of one_piece)) → ⊥
one_piece_not_full full =
    cc (sym one_piece_verdict ∙ holds_once one_piece (Ok None) ((one_piece_counts, one_piece_opens), full))

-- The sample

-- the three pieces of edge 2
record ThreePieces (vol : Volume) : Type 0 where
  pieces : vol.edge_pieces 2 ≡ 3
  starts : (start vol 2 0 ≡ 0) × (start vol 2 1 ≡ 70806) × (start vol 2 2 ≡ 86359)
  first : piece_of vol (vol.edge_first 2 + 0) ≡ pair_of 0 1
  next : piece_of vol (vol.edge_first 2 + 1) ≡ road_of 2
  last : piece_of vol (vol.edge_first 2 + 2) ≡ pair_of 0 1

-- they are the sample's, by computation
sample_pieces : ThreePieces (volume_of sample)
unfolding computing
sample_pieces = record { pieces = refl; starts = (refl, refl, refl); first = refl; next = refl; last = refl }

module _ (vol : Volume) (H : Shared vol) (E : ThreePieces vol) where
  -- where piece i is the last that has started, edge 2 is that piece
  by_last : (x i : ℕ) (q : Piece) → x < vol.period → IsLast (start vol 2) (vol.edge_pieces 2) x i
      → piece_of vol (vol.edge_first 2 + i) ≡ q → arrival vol 2 x ≡ arrival_by vol q x
  unfolding piece_at
  by_last x i q h last is =
      edge_by_piece vol H.sound 2 x (vol.edge_first 2 + i) (omega (arith, H.three_edges))
      (ap (λ (k : ℕ). vol.edge_first 2 + k) (sym (last_is (start vol 2) (vol.edge_pieces 2) x i last))
      ∙ ap (piece_at vol 2) (sym (mod-eq_of_lt h)))
      ∙ ap (λ (p : Piece). arrival_by vol p x) is

  -- edge 2 is no slower than either way
  never_slower : (x : ℕ) → x < vol.period
      → (arrival vol 2 x ≤ arrival_by vol (road_of 2) x) × (arrival vol 2 x ≤ arrival_by vol (pair_of 0 1) x)
  never_slower x h = go (dec_lt x 70806) (dec_lt x 86359)
    where
      above : (m : ℕ) → x < start vol 2 m → (j : ℕ) → m ≤ j → j < vol.edge_pieces 2 → x < start vol 2 j
      above m l = above_from (start vol 2) (vol.edge_pieces 2) x m (H.sound.edge 2 (omega (arith, H.three_edges))).rise l

      go : Dec (x < 70806) → Dec (x < 86359)
          → (arrival vol 2 x ≤ arrival_by vol (road_of 2) x) × (arrival vol 2 x ≤ arrival_by vol (pair_of 0 1) x)
      go (yes a) b =
          let last : IsLast (start vol 2) (vol.edge_pieces 2) x 0 = record {
            below = omega (arith, E.pieces);
            le = omega (arith, E.starts.0);
            above = λ j l m. above 1 (omega (arith, E.starts.1)) j (omega arith) m;
          } in
          omega (arith, by_last x 0 (pair_of 0 1) h last E.first, turn_first vol H x a)
      go (no a) (yes b) =
          let last : IsLast (start vol 2) (vol.edge_pieces 2) x 1 = record {
            below = omega (arith, E.pieces);
            le = omega (arith, E.starts.1);
            above = λ j l m. above 2 (omega (arith, E.starts.2)) j (omega arith) m;
          } in
          omega (arith, by_last x 1 (road_of 2) h last E.next, road_first vol H x (omega arith) b)
      go (no a) (no b) =
          let last : IsLast (start vol 2) (vol.edge_pieces 2) x 2 = record {
            below = omega (arith, E.pieces);
            le = omega (arith, E.starts.2);
            above = λ j l m. absurd (omega (arith, E.pieces));
          } in
          omega (arith, by_last x 2 (pair_of 0 1) h last E.last, turn_last vol H x (omega arith) (omega (arith, H.daily)))

-- each road is covered
sample_roads : (k : ℕ) → k < 3 → RoadSays (volume_of sample) k None
sample_roads =
    let vol = volume_of sample in
    let H = sample_shared in
    three (λ k. RoadSays vol k None) (own_edge vol H 0 (omega arith) H.edge_0) (own_edge vol H 1 (omega arith) H.edge_1)
    (covered vol H 2 (omega arith) (λ x l. (never_slower vol H sample_pieces x l).0))

-- edges 0 and 1 are the only pair, and edge 2 covers it
sample_pairs : (l : ℕ) → l < 3 → (r : ℕ) → r < 3 → Pair (volume_of sample) l r → PairSays (volume_of sample) l r None
unfolding computing
sample_pairs =
    let vol = volume_of sample in
    let Covered : ℕ → ℕ → Type 0 = λ l r. Pair vol l r → PairSays vol l r None in
    let only : Covered 0 1 = λ p. record {
      edge = 2;
      there = omega arith;
      starts = refl;
      ends = refl;
      never_slower = λ x h. (never_slower vol sample_shared sample_pieces x h).1;
    } in
    three (λ l. (r : ℕ) → r < 3 → Covered l r)
    (three (Covered 0) (λ p. absurd (omega (arith, p.meet))) only (λ p. absurd (omega (arith, p.meet))))
    (λ r h p. absurd (omega (arith, p.below_from)))
    (λ r h p. absurd (omega (arith, p.below_from)))

-- the sample network is full
pub sample_full : verdict_of sample ≡ Ok None
unfolding computing
sample_full =
    holds_once sample (Ok None) (
      (sample_counts, sample_opens),
      record {
        road = sample_roads;
        pair = λ l r a b meet differ below_from below_to.
            sample_pairs l a r b
            (record { left_there = a; right_there = b; meet = meet; differ = differ; below_from = below_from; below_to = below_to });
      },
    )
