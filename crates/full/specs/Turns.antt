-- What the code of the check asks of its numbers, and a road or two edges in turn over plain numbers: the arrival, and that every
-- sum on the way is a number of the code.
use Rattle.std.specs.Prelude.{ℕ, ◌+◌, ◌%◌, ◌^◌, ◌≤◌, ◌<◌, ◌≡◌, refl, ◌≢◌, List, true, false, length}
use Rattle.std.proofs.Common.{ap, sym, ◌∙◌, arith}
use borrow.Author.Tests.{eq-eqb, ne_eqb, le-leb, lt-leb}
use Rattle.block.specs.Choose.{choose_yes, choose_no}
use Rattle.theory.specs.Network.{Piece, road_of, pair_of, by_piece, edge_arr}
use Rattle.records.specs.Format.{Volume, volume_of, Laid, Counted, IsWay, day, empty}
use Rattle.volume.specs.Sound.{Sound}
use Rattle.records.specs.Index.{Linked, Indexed, indexed_linked}
use Rattle.records.specs.declared.tables.Counts.{Counts}
use Rattle.records.specs.declared.tables.Tables.{Tables}
use Rattle.records.specs.declared.tables.Way.{Way}
use Rattle.records.specs.declared.tables.Way.TheVariants.{Road, Turn as ByTurn}
use Rattle.travel.specs.Network.{network_of, period_of, arrival, road_time, Enters}
use Rattle.travel.specs.Halves.{edge_short}
use Rattle.full.specs.Cover.{named, arrival_by, not_after}

-- a sound volume whose tables begin at t, with its edges counted and indexed
pub record Ready (v : List ℕ) (t : Tables) (first next : List ℕ) (edges : ℕ) : Type 0 where
  pub laid : Laid v t
  pub sound : Sound (volume_of v)
  pub linked : Linked (volume_of v) first next
  pub counted : edges ≡ (volume_of v).edges

-- a sound volume is ready once its edges are indexed
pub ready : (v : List ℕ) (t : Tables) (c : Counts) (first₀ next₀ first next : List ℕ) → Laid v t → Sound (volume_of v) → Counted (volume_of v) c
    → c.junctions ≤ length first₀ → c.edges ≤ length next₀ → Indexed (volume_of v) first₀ next₀ first next 0
    → Ready v t first next c.edges
ready v t c first₀ next₀ first next L S n a b I = record {
  laid = L;
  sound = S;
  linked = indexed_linked (volume_of v) first₀ next₀ first next (omega (arith, n.junctions)) (omega (arith, n.edges)) I;
  counted = n.edges;
}

-- left and right name a road of the volume, or two of its edges
pub record Names (vol : Volume) (left right : ℕ) : Type 0 where
  pub road : right ≡ empty → left < vol.roads
  pub left_edge : right ≢ empty → left < vol.edges
  pub right_edge : right ≢ empty → right < vol.edges

-- road k
pub names_road : (vol : Volume) (k : ℕ) → k < vol.roads → Names vol k empty
names_road vol k h = record { road = λ z. h; left_edge = λ n. absurd (n refl); right_edge = λ n. absurd (n refl) }

-- the edges l and r
pub names_pair : (vol : Volume) (l r : ℕ) → Sound vol → l < vol.edges → r < vol.edges → Names vol l r
names_pair vol l r S a b =
    record { road = λ z. absurd (omega (arith, S.edges_few)); left_edge = λ n. a; right_edge = λ n. b }

-- what they name: a road
pub named_road : (k : ℕ) → named k empty ≡ road_of k
unfolding named
named_road k = choose_yes (road_of k) (pair_of k empty) (eq-eqb empty empty refl)

-- or two edges
pub named_pair : (l r : ℕ) → r ≢ empty → named l r ≡ pair_of l r
unfolding named
named_pair l r n = choose_no (road_of l) (pair_of l r) (ne_eqb r empty n)

-- what a way names: a road, or two edges in turn
abbrev pub way_of : Way → Piece
way_of (Road k) = road_of k
way_of (ByTurn l r) = pair_of l r

-- a road of the volume, or two of its edges
abbrev pub Known : Volume → Way → Type 0
Known vol (Road k) = k < vol.roads
Known vol (ByTurn l r) = (l < vol.edges) × (r < vol.edges)

-- a piece with that left and right goes the way that they name
pub way_named : (left right : ℕ) (way : Way) → IsWay left right way → named left right ≡ way_of way
way_named left right (Road k) W = ap (named left) W.0 ∙ named_road left ∙ ap road_of (sym W.1)
way_named left right (ByTurn l r) W = named_pair left right W.0 ∙ rw (W.1, W.2) refl

-- two edges in turn, entered at x
pub record Turn (vol : Volume) (left right x : ℕ) : Type 0 where
  pub enters : Enters vol left x
  -- the right one is entered at the second at which the left one arrives
  pub goes_on : (a : ℕ) → x + a ≡ arrival vol left x → Enters vol right (x + a)
  -- and the sum of their durations is a number of the code
  pub sum : (a b : ℕ) → x + a ≡ arrival vol left x → x + a + b ≡ arrival vol right (x + a) → a + b < 2 ^ 63
  pub arrives : (a b : ℕ) → x + a ≡ arrival vol left x → x + a + b ≡ arrival vol right (x + a)
      → x + (a + b) ≡ arrival_by vol (named left right) x

module _ (vol : Volume) (S : Sound vol) (left right x : ℕ) (N : Names vol left right) where
  -- a road's duration leads to its arrival
  pub road_turn : (d : ℕ) → right ≡ empty → d ≡ road_time vol left x → x + d ≡ arrival_by vol (named left right) x
  road_turn d z k =
      ap (λ (a : ℕ). x + a) (k ∙ ap (λ (t : ℕ). (network_of vol).duration left (x % t)) (sym (period_of vol)))
      ∙ sym (ap (by_piece (network_of vol) (edge_arr (network_of vol)) x) (ap (named left) z ∙ named_road left))

  -- two edges' durations lead to theirs
  pub pair_turn : vol.period ≡ day → x < vol.period → right ≢ empty → Turn vol left right x
  pair_turn p h n =
      let hl = N.left_edge n in
      let hr = N.right_edge n in
      let sl = (S.edge left hl).span in
      let sr = (S.edge right hr).span in
      let short = edge_short vol S left x hl in
      record {
        enters = record { there = hl; fits = omega arith };
        goes_on = λ a ha. record { there = hr; fits = omega arith };
        sum = λ a b ha hb. omega (arith, edge_short vol S right (x + a) hr);
        arrives = λ a b ha hb.
            let z : x + (a + b) ≡ x + a + b = omega arith in
            z ∙ hb ∙ ap (arrival vol right) ha
            ∙ sym (ap (by_piece (network_of vol) (edge_arr (network_of vol)) x) (named_pair left right n));
      }

-- a road of the volume, entered at x
pub road_goes : (vol : Volume) → Sound vol → (k x d : ℕ) → k < vol.roads → d ≡ road_time vol k x → x + d ≡ arrival_by vol (road_of k) x
road_goes vol S k x d h e = rw (named_road k) at (road_turn vol S k empty x (names_road vol k h) d refl e)

-- two of its edges in turn
module _ (vol : Volume) (S : Sound vol) (l r x : ℕ) (a : l < vol.edges) (b : r < vol.edges) where
  two : r ≢ empty
  two z = omega (arith, S.edges_few)

  pub pair_goes : vol.period ≡ day → x < vol.period → Turn vol l r x
  pair_goes p h = pair_turn vol S l r x (names_pair vol l r S a b) p h two

  pub pair_named : named l r ≡ pair_of l r
  pair_named = named_pair l r two

-- one second of a comparison

module _ (vol : Volume) where
  -- a and b are the durations by p and by q, entered at x
  module _ (p q : Piece) (x a b : ℕ) (ha : x + a ≡ arrival_by vol p x) (hb : x + b ≡ arrival_by vol q x) where
    -- p is slower
    pub turn_late : b < a → not_after vol p q x ≡ false
    unfolding not_after
    turn_late h = lt-leb (arrival_by vol p x) (arrival_by vol q x) (omega arith)

    -- p is not
    pub turn_in_time : a ≤ b → not_after vol p q x ≡ true
    unfolding not_after
    turn_in_time h = le-leb (arrival_by vol p x) (arrival_by vol q x) (omega arith)

  -- the same two numbers are equal by definition
  pub turn_same : (a b left right x : ℕ) → a ≡ left → b ≡ right → not_after vol (named a b) (named left right) x ≡ true
  unfolding not_after
  turn_same a b left right x e f = rw (e, f) (le-leb (arrival_by vol (named left right) x) (arrival_by vol (named left right) x) (omega arith))

  -- and so are the same two ways
  pub way_same : (p q : Way) (x : ℕ) → p ≡ q → not_after vol (way_of p) (way_of q) x ≡ true
  unfolding not_after
  way_same p q x e = rw e (le-leb (arrival_by vol (way_of q) x) (arrival_by vol (way_of q) x) (omega arith))
