-- An edge by its piece in force, as the code reads it: what is known and asked where the piece goes by a road, and where by two edges in
-- turn.
use Rattle.std.specs.Prelude.{ℕ, ◌+◌, ◌%◌, ◌<◌, ◌≤◌, ◌≡◌, ◌≢◌, [], ◌∷◌, ◌++◌, List, length}
use Rattle.std.proofs.Common.{refl, ap, sym, ◌∙◌, arith}
use Rattle.block.specs.Word.{content_at, Holds}
use Rattle.records.specs.Format.{Volume, volume_of, Laid, IsWay, empty}
use Rattle.rules.specs.Facts.{begins_next}
use Rattle.records.specs.declared.tables.Tables.{Tables}
use Rattle.records.specs.declared.tables.Way.TheVariants.{Road, Turn}
use Rattle.volume.specs.Sound.{Sound}
use Rattle.travel.specs.declared.path.Unfolded.{Unfolded}
use Rattle.travel.specs.Network.{piece_at, road_time, arrival, roads_of, Enters}
use Rattle.travel.specs.Digest.{piece_word, pieces_from, Stands}
use Rattle.travel.specs.PieceWords.{force_held, force_read}
use Rattle.travel.specs.Halves.{Halves, edge_by_piece, road_there, road_arrives, halves, halves_arrive}
use Rattle.travel.specs.Unfolds.{InForce, Unfolds, one_road, road_unfolds, left_among, roads_halves, halves_unfold}

-- a sound edge's pieces stand between where they begin and where those of the next edge do
pub stands_between : {vol : Volume} → Sound vol → (e : ℕ) → e < vol.edges → (at end : ℕ) → at ≡ pieces_from vol e
    → end ≡ pieces_from vol (e + 1) → Stands vol e at end
stands_between {vol} S e h at end a b = record {
  begin = a ∙ ap (piece_word vol) (sym (S.edge e h).laid);
  end_is = b ∙ ap (piece_word vol) (begins_next vol.edge_first vol.edge_pieces e);
}

-- the piece in force stands at word w
module _ {v : List ℕ} {t : Tables} (L : Laid v t) (S : Sound (volume_of v)) (e x w : ℕ) (E : Enters (volume_of v) e x)
    (is : w ≡ piece_word (volume_of v) (piece_at (volume_of v) e (x % (volume_of v).period))) where
  -- all its words are held
  pub way_held : Holds v (w + 2)
  way_held = force_held L S e x w E is 2 (omega arith)

  -- it goes by road k
  module _ (k : ℕ) (W : IsWay (content_at v (w + 1)) (content_at v (w + 2)) (Road k)) where
    force : InForce (volume_of v) e x (piece_at (volume_of v) e (x % (volume_of v).period)) k (content_at v (w + 2))
    force = force_read L S e x w E is k (content_at v (w + 2)) W.1 refl

    pub way_road : k < (volume_of v).roads
    way_road = road_there force.hand W.0

    pub way_lasts : (d : ℕ) → d ≡ road_time (volume_of v) k x → x + d ≡ arrival (volume_of v) e x
    way_lasts d q = road_arrives force.hand W.0 d q ∙ sym (edge_by_piece (volume_of v) S e x _ E.there refl)

    pub way_one : roads_of (volume_of v) e x ≡ k ∷ []
    way_one = one_road force W.0

    pub way_road_unfolds : (d : ℕ) → d ≡ road_time (volume_of v) k x → Unfolds (volume_of v) e x (record { roads = 1; duration = d })
    way_road_unfolds d q = road_unfolds force W.0 d q

  -- it goes by l and then r
  module _ (l r : ℕ) (W : IsWay (content_at v (w + 1)) (content_at v (w + 2)) (Turn l r)) where
    turn : InForce (volume_of v) e x (piece_at (volume_of v) e (x % (volume_of v).period)) l r
    turn = force_read L S e x w E is l r W.1 W.2

    two : r ≢ empty
    two z = W.0 (sym W.2 ∙ z)

    pub way_halves : Halves (volume_of v) e x l r
    way_halves = halves turn.hand two

    pub way_arrives : (a b : ℕ) → x + a ≡ arrival (volume_of v) l x → x + a + b ≡ arrival (volume_of v) r (x + a)
        → x + (a + b) ≡ arrival (volume_of v) e x
    way_arrives a b p q = halves_arrive turn.hand two a b p q ∙ sym (edge_by_piece (volume_of v) S e x _ E.there refl)

    pub way_left_among : length (roads_of (volume_of v) l x) ≤ length (roads_of (volume_of v) e x)
    way_left_among = left_among turn two

    module _ (a : Unfolded) (ha : Unfolds (volume_of v) l x a) where
      pub way_roads : roads_of (volume_of v) e x ≡ roads_of (volume_of v) l x ++ roads_of (volume_of v) r (x + a.duration)
      way_roads = roads_halves turn two a ha

      pub way_unfolds : (b : Unfolded) → Unfolds (volume_of v) r (x + a.duration) b
          → Unfolds (volume_of v) e x (record { roads = a.roads + b.roads; duration = a.duration + b.duration })
      way_unfolds b hb = halves_unfold turn two a ha b hb
