-- What unfolding an edge answers: how many roads there are, and how long they take. The roads themselves are `roads_of` of Network, and
-- what is left in the lent path list is said in Written.
use Rattle.std.specs.Prelude.{ℕ, ◌+◌, ◌%◌, ◌≤◌, ◌<◌, ◌≡◌, ◌≢◌, [], ◌∷◌, ◌++◌}
use Rattle.std.proofs.Math.Path.{ap, sym}
use Rattle.std.proofs.Common.{◌∙◌, arith}
use Rattle.std.proofs.Math.ListN.{length, length-append}
use Rattle.records.specs.Format.{Volume, empty}
use Rattle.rules.specs.Rules.{most_span}
use Rattle.volume.specs.Sound.{Sound}
use Rattle.travel.specs.Network.{piece_at, road_time, arrival, roads_of}
use Rattle.travel.specs.Halves.{InHand, edge_by_piece, road_arrives, halves_arrive, roads_one, roads_two, roads_few}
use Rattle.travel.specs.declared.path.Unfolded.{Unfolded}

-- u says how many roads edge e entered at x unfolds to, and how long they take
pub record Unfolds (vol : Volume) (e x : ℕ) (u : Unfolded) : Type 0 where
  pub roads : u.roads ≡ length (roads_of vol e x)
  pub duration : x + u.duration ≡ arrival vol e x

-- they are few
pub few_roads : (vol : Volume) → Sound vol → (e x : ℕ) (u : Unfolded) → e < vol.edges → Unfolds vol e x u → u.roads ≤ most_span
few_roads vol S e x u h k = omega (arith, k.roads, roads_few vol S e x h, (S.edge e h).span)

-- the piece in hand, where it is the one in force
pub record InForce (vol : Volume) (e x p l r : ℕ) : Type 0 where
  pub hand : InHand vol e x p l r
  pub force : p ≡ piece_at vol e (x % vol.period)

module _ {vol : Volume} {e x p l r : ℕ} (F : InForce vol e x p l r) where
  -- a road is one road
  pub one_road : r ≡ empty → roads_of vol e x ≡ l ∷ []
  one_road q = roads_one F.hand F.force q

  pub road_unfolds : r ≡ empty → (d : ℕ) → d ≡ road_time vol l x
      → Unfolds vol e x (record { roads = 1; duration = d })
  road_unfolds q d k =
      record {
        roads = sym (ap length (one_road q));
        duration = road_arrives F.hand q d k ∙ sym (edge_by_piece vol F.hand.sound e x p F.hand.enters.there F.force);
      }

  -- two halves in turn: the left one's roads are among the edge's
  pub left_among : r ≢ empty → length (roads_of vol l x) ≤ length (roads_of vol e x)
  left_among q =
      let k = length-append (roads_of vol l x) (roads_of vol r (arrival vol l x)) in
      omega (arith, ap length (roads_two F.hand F.force q))

  -- and the right one's, entered when the left one arrives, are the others
  module _ (q : r ≢ empty) (a : Unfolded) (ha : Unfolds vol l x a) where
    pub roads_halves : roads_of vol e x ≡ roads_of vol l x ++ roads_of vol r (x + a.duration)
    roads_halves =
        roads_two F.hand F.force q ∙ ap (λ (y : ℕ). roads_of vol l x ++ roads_of vol r y) (sym ha.duration)

    pub halves_unfold : (b : Unfolded) → Unfolds vol r (x + a.duration) b
        → Unfolds vol e x (record { roads = a.roads + b.roads; duration = a.duration + b.duration })
    halves_unfold b hb = record {
      roads = let k = length-append (roads_of vol l x) (roads_of vol r (x + a.duration)) in
          omega (arith, ha.roads, hb.roads, ap length roads_halves);
      duration = halves_arrive F.hand q a.duration b.duration ha.duration hb.duration
          ∙ sym (edge_by_piece vol F.hand.sound e x p F.hand.enters.there F.force);
    }
