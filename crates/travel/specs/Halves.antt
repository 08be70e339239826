-- An edge by one of its pieces, over plain numbers: what the code of an edge asks and gets where the piece is a road, and where it is
-- two halves in turn.
use Rattle.std.specs.Prelude.{ℕ, ◌+◌, ◌*◌, ◌%◌, ◌^◌, ◌≤◌, ◌<◌, ◌≡◌, ◌≢◌, [], ◌∷◌, ◌++◌, length}
use Rattle.std.proofs.Math.Path.{ap}
use Rattle.std.proofs.Common.{ap₂, sym, ◌∙◌, length-append, arith, mod-lt}
use Rattle.theory.specs.Network.{Piece, road_of, pair_of, by_piece, edge_arr, SoundNetwork, Spans}
use Rattle.theory.specs.Pieces.{InForce}
use Rattle.theory.proofs.Pieces.{edge_is, edge_bound, by_pieces}
use Rattle.theory.specs.Unfold.{roads_by_piece, roads_of_edge}
use Rattle.theory.proofs.Unfold.{unfold_is}
use Rattle.records.specs.Format.{Volume, empty}
use Rattle.rules.specs.Rules.{longest}
use Rattle.volume.specs.Sound.{PairPiece, Sound}
use Rattle.travel.specs.Network.{network_of, piece_at, piece_of, arrival, piece_arrival, roads_of, road_time, HasPiece, Enters}
use Rattle.travel.specs.Network.{period_of, edges_of, in_force_of, piece_road, piece_pair, has_piece, road_at, pair_at, sound_network, bounded}

-- what the code has in hand: piece p of edge e, which is entered at x, and the piece's left l and right r
pub record InHand (vol : Volume) (e x p l r : ℕ) : Type 0 where
  pub sound : Sound vol
  pub enters : Enters vol e x
  pub has : HasPiece vol e p
  pub left : l ≡ vol.piece_left p
  pub right : r ≡ vol.piece_right p

-- the halves l and r of a piece of edge e, which is entered at x
pub record Halves (vol : Volume) (e x l r : ℕ) : Type 0 where
  pub left_below : l < e
  pub right_below : r < e
  pub left : Enters vol l x
  -- the right half may be entered at every second until the left one arrives
  pub right : (y : ℕ) → y ≤ arrival vol l x → Enters vol r y
  -- and the sum of their durations is a number of the code
  pub sum : (a b y : ℕ) → x + a ≡ arrival vol l x → y + b ≡ arrival vol r y → a + b < 2 ^ 63

module _ (vol : Volume) (S : Sound vol) where
  -- an edge is its piece in force
  pub edge_by_piece : (e x p : ℕ) → e < vol.edges → p ≡ piece_at vol e (x % vol.period) → arrival vol e x ≡ piece_arrival vol p x
  edge_by_piece e x p h q =
      edge_is (network_of vol) (sound_network vol S) e x (rw (edges_of vol) h)
      ∙ ap (λ (t : ℕ). by_piece (network_of vol) (edge_arr (network_of vol)) x ((network_of vol).in_force e (x % t))) (period_of vol)
      ∙ ap (by_piece (network_of vol) (edge_arr (network_of vol)) x) (in_force_of vol e (x % vol.period) ∙ ap (piece_of vol) (sym q))

  -- and so are its roads
  roads_by : (e x p : ℕ) → e < vol.edges → p ≡ piece_at vol e (x % vol.period)
      → roads_of vol e x ≡ roads_by_piece (network_of vol) (roads_of_edge (network_of vol)) x (piece_of vol p)
  roads_by e x p h q =
      unfold_is (network_of vol) (sound_network vol S) e x (rw (edges_of vol) h)
      ∙ ap (λ (t : ℕ). roads_by_piece (network_of vol) (roads_of_edge (network_of vol)) x ((network_of vol).in_force e (x % t))) (period_of vol)
      ∙ ap (roads_by_piece (network_of vol) (roads_of_edge (network_of vol)) x) (in_force_of vol e (x % vol.period) ∙ ap (piece_of vol) (sym q))

  -- the piece in force is one of the edge's
  pub force_has : (e x p : ℕ) → e < vol.edges → p ≡ piece_at vol e (x % vol.period) → HasPiece vol e p
  force_has e x p h q = rw q (has_piece vol S e (x % vol.period) h)

  -- a piece is in the table
  pub piece_in : (e p : ℕ) → e < vol.edges → HasPiece vol e p → p < vol.pieces
  piece_in e p h of = omega (arith, of.high, (S.edge e h).inside)

  pub force_in : (e x p : ℕ) → e < vol.edges → p ≡ piece_at vol e (x % vol.period) → p < vol.pieces
  force_in e x p h q = piece_in e p h (force_has e x p h q)

  -- an edge takes at most the longest duration for each road of its span
  pub edge_short : (e x : ℕ) → e < vol.edges → arrival vol e x ≤ x + longest * vol.edge_span e
  edge_short e x h =
      omega (arith, edge_bound (network_of vol) (sound_network vol S) longest vol.edge_span (bounded vol S) e x (rw (edges_of vol) h))

  -- and has at most as many roads as its span says
  pub roads_few : (e x : ℕ) → e < vol.edges → length (roads_of vol e x) ≤ vol.edge_span e
  roads_few e x h = by_pieces (network_of vol) N (λ e x. length (roads_of vol e x) ≤ vol.edge_span e) road pair e x (rw (edges_of vol) h)
    where
      N : SoundNetwork (network_of vol)
      N = sound_network vol S

      spans : (e x : ℕ) (q : Piece) → e < (network_of vol).edges → InForce (network_of vol) e x q → Spans (network_of vol) vol.edge_span e q
      spans e x q h i = rw i.chosen at ((bounded vol S).spans e (x % (network_of vol).period) h (mod-lt x N.period_some))

      is : (e x : ℕ) (q : Piece) → e < (network_of vol).edges → InForce (network_of vol) e x q
          → roads_of vol e x ≡ roads_by_piece (network_of vol) (roads_of_edge (network_of vol)) x q
      is e x q h i = unfold_is (network_of vol) N e x h ∙ ap (roads_by_piece (network_of vol) (roads_of_edge (network_of vol)) x) i.chosen

      road : (e x k : ℕ) → e < (network_of vol).edges → InForce (network_of vol) e x (road_of k) → length (roads_of vol e x) ≤ vol.edge_span e
      road e x k h i = rw (is e x (road_of k) h i) (spans e x (road_of k) h i)

      pair : (e x l r : ℕ) → e < (network_of vol).edges → InForce (network_of vol) e x (pair_of l r) → length (roads_of vol l x) ≤ vol.edge_span l
          → length (roads_of vol r (arrival vol l x)) ≤ vol.edge_span r → length (roads_of vol e x) ≤ vol.edge_span e
      pair e x l r h i a b =
          rw (is e x (pair_of l r) h i)
          (omega (arith, spans e x (pair_of l r) h i, length-append (roads_of vol l x) (roads_of vol r (arrival vol l x))))

module _ {vol : Volume} {e x p l r : ℕ} (H : InHand vol e x p l r) where
  -- a road
  module _ (q : r ≡ empty) where
    is_road : piece_of vol p ≡ road_of l
    is_road = piece_road vol p (sym H.right ∙ q) ∙ ap road_of (sym H.left)

    pub road_there : l < vol.roads
    road_there = rw H.left (road_at vol H.sound e p H.enters.there H.has (sym H.right ∙ q)).road

    pub road_arrives : (d : ℕ) → d ≡ road_time vol l x → x + d ≡ piece_arrival vol p x
    road_arrives d k =
        ap (λ (a : ℕ). x + a) (k ∙ ap (λ (t : ℕ). (network_of vol).duration l (x % t)) (sym (period_of vol)))
        ∙ sym (ap (by_piece (network_of vol) (edge_arr (network_of vol)) x) is_road)

  -- two halves
  module _ (q : r ≢ empty) where
    pair : PairPiece vol e p
    pair = pair_at vol H.sound e p H.enters.there H.has (λ z. q (H.right ∙ z))

    is_a_pair : piece_of vol p ≡ pair_of l r
    is_a_pair = piece_pair vol p (λ z. q (H.right ∙ z)) ∙ ap₂ pair_of (sym H.left) (sym H.right)

    pub halves : Halves vol e x l r
    halves =
        let k = pair in
        let spans : vol.edge_span l + vol.edge_span r ≤ vol.edge_span e = rw (H.left, H.right) k.span in
        let ll : l < e = rw H.left k.left in
        let rl : r < e = rw H.right k.right in
        record {
          left_below = ll;
          right_below = rl;
          left = record { there = omega (arith, H.enters.there); fits = omega (arith, H.enters.fits) };
          right = λ y hy. record {
            there = omega (arith, H.enters.there);
            fits = omega (arith, H.enters.fits, edge_short vol H.sound l x (omega (arith, H.enters.there)));
          };
          sum = λ a b y ha hb.
              omega (
                arith,
                H.enters.fits,
                edge_short vol H.sound l x (omega (arith, H.enters.there)),
                edge_short vol H.sound r y (omega (arith, H.enters.there)),
              );
        }

    pub halves_arrive : (a b : ℕ) → x + a ≡ arrival vol l x → x + a + b ≡ arrival vol r (x + a) → x + (a + b) ≡ piece_arrival vol p x
    halves_arrive a b ha hb =
        let z : x + (a + b) ≡ x + a + b = omega arith in
        z ∙ hb ∙ ap (arrival vol r) ha ∙ sym (ap (by_piece (network_of vol) (edge_arr (network_of vol)) x) is_a_pair)

  -- the roads of an edge, where p is its piece in force
  module _ (f : p ≡ piece_at vol e (x % vol.period)) where
    pub roads_one : r ≡ empty → roads_of vol e x ≡ l ∷ []
    roads_one q =
        roads_by vol H.sound e x p H.enters.there f
        ∙ ap (roads_by_piece (network_of vol) (roads_of_edge (network_of vol)) x) (is_road q)

    pub roads_two : r ≢ empty → roads_of vol e x ≡ roads_of vol l x ++ roads_of vol r (arrival vol l x)
    roads_two q =
        roads_by vol H.sound e x p H.enters.there f
        ∙ ap (roads_by_piece (network_of vol) (roads_of_edge (network_of vol)) x) (is_a_pair q)
