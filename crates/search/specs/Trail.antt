-- The trail of a closed answer, as it is walked back over the work area: what the walk needs, the edges that it gives, and what one
-- step of it does. The rule that the trail follows is `trail_back` of the theory's Settling.
use Prim.Native.Nat.{ℕ, zero, suc, ◌+◌, ◌-◌, ◌*◌, ◌≤◌, ◌<◌}
use Rattle.std.specs.Prelude.{◌≡◌, refl, Bool, true, false, cond, ◌≢◌, List, [], ◌∷◌, ◌++◌, ltb, length, take, set, get_or}
use Rattle.std.proofs.Common.{ap, ap₂, ◌∙◌, length-set, length-drop, take_all, drop-cons, get_or-set_same, drop-set-lt}
use native.Mathlib.Omega.{arith}
use Rattle.std.proofs.Math.ListN.{drop}
use Rattle.std.proofs.Math.Seq.{drop-length}
use borrow.Author.Tests.{eq-eqb, ne_eqb, lt-ltb, le-ltb}
use Rattle.theory.specs.Settling.{arc_of, came_from, edges_by, web, trail_back}
use Rattle.records.specs.Format.{Volume}
use Rattle.volume.specs.Sound.{Sound}
use Rattle.travel.specs.Network.{network_of}
use Rattle.settle.specs.Work.{label_of, labels}

-- the edges of the trail from `from` to `to`, of at most `used` arcs, that the labels in the work area w remember
abbrev pub trail_of : Volume → ℕ → ℕ → ℕ → List ℕ → List ℕ
trail_of vol from to used w =
    trail_back (web (network_of vol) to) from used (labels (vol.junctions + vol.junctions) w) (vol.junctions + to) []

-- the state from which arc k leads to state s; the destination plays no part in it
abbrev pub came_from_in : Volume → ℕ → ℕ → ℕ
came_from_in vol s k = came_from (network_of vol) 0 s k

-- the n junctions' labels stand in the work area w, and every arc there is the turn or an edge
pub record Walkable (vol : Volume) (n to : ℕ) (w : List ℕ) : Type 0 where
  pub number : n ≡ vol.junctions
  pub to_in : to < vol.junctions
  pub room : 8 * vol.junctions ≤ length w
  pub arcs : (t : ℕ) → t < vol.junctions + vol.junctions → arc_of (labels (vol.junctions + vol.junctions) w t) ≤ vol.edges

-- the trail's edges stand in the list `trail` from place r to its end
pub record Trailed (vol : Volume) (from to used : ℕ) (w trail : List ℕ) (r : ℕ) : Type 0 where
  pub inside : r ≤ length trail
  pub edges : drop r trail ≡ trail_of vol from to used w

-- which is the part that is lent on
pub part_is : {vol : Volume} {from to used : ℕ} {w trail : List ℕ} {r : ℕ} → Trailed vol from to used w trail r → (n : ℕ) → length trail ≡ n
    → take (n - r) (drop r trail) ≡ trail_of vol from to used w
part_is {vol} {from} {to} {used} {w} {trail} {r} T n h =
    take_all (n - r) (drop r trail) (let l = length-drop r trail in omega arith) ∙ T.edges

-- The arc of a label, as it stands in the work area

-- a state with no label has arc 0
pub arc_none : (S : ℕ) (w : List ℕ) (s : ℕ) → s < S → get_or w (4 * s) 0 ≡ 0 → 0 ≡ arc_of (labels S w s)
unfolding labels
arc_none S w s h e = rw (lt-ltb s S h, e)

-- any other has the arc that stands there
pub arc_some : (S : ℕ) (w : List ℕ) (s : ℕ) → s < S → get_or w (4 * s) 0 ≢ 0 → get_or w (4 * s + 2) 0 ≡ arc_of (labels S w s)
unfolding labels
arc_some S w s h n = rw (lt-ltb s S h) (go (get_or w (4 * s) 0) n)
  where
    go : (kind : ℕ) → kind ≢ 0 → get_or w (4 * s + 2) 0 ≡ arc_of (label_of kind (get_or w (4 * s + 1) 0) (get_or w (4 * s + 2) 0))
    go zero n = absurd (n refl)
    go (suc zero) n = refl
    go (suc (suc k)) n = refl

-- both
pub ruleset arc_cases = (arc_none, arc_some)

-- The state before, by the cases of the code

module _ (vol : Volume) (n s : ℕ) (number : n ≡ vol.junctions) where
  -- the turn, from the same junction climbing
  pub turned : n ≤ s → s - n ≡ came_from_in vol s 0
  unfolding network_of
  turned h = omega arith

  -- a climbing state is reached by no turn; the rule says 0
  pub turned_low : s < n → 0 ≡ came_from_in vol s 0
  unfolding network_of
  turned_low h = omega arith

  module _ (k e u : ℕ) (is : k ≡ suc e) (start : u ≡ vol.edge_from e) where
    -- an edge to a climbing state, from its start climbing
    pub climbed : s < n → u ≡ came_from_in vol s k
    unfolding network_of
    climbed h = rw (is, lt-ltb s vol.junctions (omega arith)) start

    -- an edge to a descending state, from its start descending
    pub descended : n ≤ s → n + u ≡ came_from_in vol s k
    unfolding network_of
    descended h = rw (is, le-ltb s vol.junctions (omega arith)) (ap₂ ◌+◌ number start)

-- all of these
pub ruleset back_cases = (turned, turned_low, climbed, descended)

-- it is a state
pub came_in : (vol : Volume) → Sound vol → (s k : ℕ) → s < vol.junctions + vol.junctions → k ≤ vol.edges
    → came_from_in vol s k < vol.junctions + vol.junctions
unfolding network_of
came_in vol S s zero h l = omega arith
came_in vol S s (suc e) h l = go (ltb s vol.junctions)
  where
    go : (t : Bool) → cond t (vol.edge_from e) (vol.junctions + vol.edge_from e) < vol.junctions + vol.junctions
    go true = omega (arith, (S.edge e l).from_in)
    go false = omega (arith, (S.edge e l).from_in)

-- The walk

-- at state s with `left` arcs left to walk, the edges walked so far stand in `trail` from place `at` on
pub record Walked (vol : Volume) (from to used : ℕ) (w : List ℕ) (left s at : ℕ) (trail : List ℕ) : Type 0 where
  pub here : s < vol.junctions + vol.junctions
  pub fits : left ≤ at
  pub inside : at ≤ length trail
  pub rest : trail_back (web (network_of vol) to) from left (labels (vol.junctions + vol.junctions) w) s (drop at trail) ≡ trail_of vol from to used w

-- it begins at the destination, with nothing written
pub walk_begins : (vol : Volume) (n from to used : ℕ) (w trail : List ℕ) → Walkable vol n to w → used ≤ length trail
    → Walked vol from to used w used (n + to) (length trail) trail
walk_begins vol n from to used w trail W h =
    let number = W.number in
    record {
      here = omega (arith, W.to_in);
      fits = h;
      inside = omega arith;
      rest = rw (drop-length, W.number);
    }

module _ {vol : Volume} {from to used : ℕ} {w : List ℕ} {left s at : ℕ} {trail : List ℕ} (H : Walked vol from to used w left s at trail) where
  -- it ends at the start
  pub walk_home : s ≡ from → Trailed vol from to used w trail at
  unfolding trail_back
  walk_home e = record { inside = H.inside; edges = go left H.rest }
    where
      go : (left : ℕ) → trail_back (web (network_of vol) to) from left (labels (vol.junctions + vol.junctions) w) s (drop at trail) ≡ trail_of vol from to used w
          → drop at trail ≡ trail_of vol from to used w
      go zero r = r
      go (suc l) r = rw (eq-eqb s from e) at r

  -- or where no arc is left
  pub walk_over : left ≡ 0 → Trailed vol from to used w trail at
  unfolding trail_back
  walk_over e = record { inside = H.inside; edges = rw e at H.rest }

  -- k is the arc of the state's label
  module _ (n k : ℕ) (W : Walkable vol n to w) (arc : k ≡ arc_of (labels (n + n) w s)) where
    -- said with the volume's own number of junctions
    is_arc : k ≡ arc_of (labels (vol.junctions + vol.junctions) w s)
    is_arc = rw W.number at arc

    -- which the labels hold to be the turn or an edge
    pub arc_known : k ≤ vol.edges
    arc_known = rw is_arc (W.arcs s H.here)

  -- one arc k back, to state p
  module _ (S : Sound vol) (n k p : ℕ) (W : Walkable vol n to w) (arc : k ≡ arc_of (labels (n + n) w s)) (back : p ≡ came_from_in vol s k) (some : 0 < left) (away : s ≢ from) where
    -- p is a state
    there : p < vol.junctions + vol.junctions
    there = rw back (came_in vol S s k H.here (arc_known n k W arc))

    -- the way back goes on from p with the edges of arc k before the others
    step : trail_back (web (network_of vol) to) from (left - 1) (labels (vol.junctions + vol.junctions) w) p (edges_by (network_of vol) to k ++ drop at trail)
        ≡ trail_of vol from to used w
    unfolding trail_back
    step =
        let l : left ≡ suc (left - 1) = omega arith in
        let r = rw (l, ne_eqb s from away, ← is_arc n k W arc) at H.rest in
        rw back r

    -- the turn drives no edge
    pub walk_turn : k ≡ 0 → Walked vol from to used w (left - 1) p at trail
    walk_turn e = record { here = there; fits = omega (arith, H.fits); inside = H.inside; rest = rw e at step }

    -- an edge is written before the others
    pub walk_edge : (e : ℕ) → k ≡ suc e → Walked vol from to used w (left - 1) p (at - 1) (set trail (at - 1) e)
    walk_edge e is =
        let f = H.fits in
        let i = H.inside in
        let m = length-set trail (at - 1) e in
        let q : suc (at - 1) ≡ at = omega arith in
        let d : drop (at - 1) (set trail (at - 1) e) ≡ e ∷ drop at trail =
        drop-cons (set trail (at - 1) e) (at - 1) 0 (omega arith)
        ∙ ap₂ ◌∷◌ (get_or-set_same trail (at - 1) e 0 (omega arith)) (drop-set-lt (suc (at - 1)) trail (at - 1) e (omega arith) ∙ ap (λ (j : ℕ). drop j trail) q) in
        record { here = there; fits = omega arith; inside = omega arith; rest = rw d (rw is at step) }
