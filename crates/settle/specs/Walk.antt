-- One unit over the work area: the state's kind becomes settled, the turn is offered, and then its edges by a walk through the index.
use Rattle.std.specs.Prelude.{ℕ, zero, suc, ◌+◌, ◌*◌, ◌≤◌, ◌<◌, Bool, true, false, None, Some, List, ◌≡◌, refl, ltb, length, get_or, set}
use Rattle.std.proofs.Math.Path.{sym}
use Rattle.std.proofs.Common.{◌∙◌, ap, arith, add-one, get_or-set_other, lt-ltb, le-ltb}
use Rattle.std.proofs.Math.Decide.{dec_lt}
use Rattle.std.proofs.lemmas.List.{set-get_or}
use Rattle.block.specs.Choose.{choose, choose_yes, choose_no}
use Rattle.theory.specs.Settling.{Table, put, offer, relax, settle_label, settle, leaves_by}
use Rattle.theory.specs.Marks.{marked}
use Rattle.theory.specs.Computing.{relax_more, relax_skips}
use Rattle.records.specs.Format.{Volume}
use Rattle.records.specs.Index.{next_from, next_low, next_skips}
use Rattle.travel.specs.Network.{network_of}
use Rattle.settle.specs.Work.{label_of, labels, labels_in, store, Holds, holds_same, holds_then, holds_as, holds_store}
use Rattle.settle.specs.Chain.{WaitsAt}
use Rattle.settle.specs.Offered.{offer_to, rechained_offer}
use Rattle.settle.specs.Marked.{MarksBelow}
use Rattle.settle.specs.Arcs.{web_of, states_of, place_of, lead_of, leaves_away, arc_skipped, arc_offered}

-- Settled

-- a kind that becomes 2 settles a label that waits
pub holds_settled : (S : ℕ) (w : List ℕ) (s : ℕ) → s < S → 4 * S ≤ length w → WaitsAt w s
    → Holds S w (set w (4 * s) 2) (put (labels S w) s (settle_label (labels S w s)))
holds_settled S w s h l waits =
    rw (sym stored, settles) (holds_store S w s 2 b k h l)
  where
    b : ℕ
    b = get_or w (4 * s + 1) 0

    k : ℕ
    k = get_or w (4 * s + 2) 0

    settles : settle_label (labels S w s) ≡ label_of 2 b k
    settles = ap settle_label (labels_in S w s h) ∙ ap (λ (kind : ℕ). settle_label (label_of kind b k)) waits

    stored : store w s 2 b k ≡ set w (4 * s) 2
    stored =
        ap (λ (v : List ℕ). set v (4 * s + 2) k)
        (ap (set (set w (4 * s) 2) (4 * s + 1)) (sym (get_or-set_other w (4 * s) (4 * s + 1) 2 0 (omega arith))) ∙ set-get_or (set w (4 * s) 2) (4 * s + 1) 0)
        ∙ ap (set (set w (4 * s) 2) (4 * s + 2)) (sym (get_or-set_other w (4 * s) (4 * s + 2) 2 0 (omega arith)))
        ∙ set-get_or (set w (4 * s) 2) (4 * s + 2) 0

-- The turn

-- the work area after state s, settled at a, offered its own junction, descending, if it climbs and is marked; h is the
-- first of the chain
unfoldable pub turned : List Bool → ℕ → ℕ → ℕ → ℕ → List ℕ → List ℕ
turned marks n s a h w = choose (ltb s n) (choose (get_or marks s false) (offer_to w h (n + s) a 0) w) w

module _ (marks : List Bool) (n s a f : ℕ) (w : List ℕ) where
  -- a climbing state that is marked
  pub turn_made : s < n → get_or marks s false ≡ true → offer_to w f (n + s) a 0 ≡ turned marks n s a f w
  unfolding turned
  turn_made h m = sym (choose_yes _ _ (lt-ltb s n h) ∙ choose_yes _ _ m)

  -- one that is not marked
  pub turn_unmarked : s < n → get_or marks s false ≡ false → w ≡ turned marks n s a f w
  unfolding turned
  turn_unmarked h m = sym (choose_yes _ _ (lt-ltb s n h) ∙ choose_no _ _ m)

  -- a descending state
  pub turn_none : n ≤ s → w ≡ turned marks n s a f w
  unfolding turned
  turn_none h = sym (choose_no _ _ (le-ltb s n h))

-- all of these, and that the chain stands after an offer
pub ruleset turn_cases = (turn_made, turn_unmarked, turn_none, rechained_offer)

module _ (vol : Volume) (d s a : ℕ) where
  -- the turn is arc 0: a marked climbing state offers it
  turn_lead : s < vol.junctions → marked (network_of vol) d s ≡ true → Some (vol.junctions + s) ≡ lead_of (web_of vol d) s 0
  unfolding network_of
  turn_lead h m = sym (choose_yes _ _ (rw (lt-ltb s vol.junctions h) m))

  -- one that is not marked does not
  turn_nowhere : s < vol.junctions → marked (network_of vol) d s ≡ false → None ≡ lead_of (web_of vol d) s 0
  unfolding network_of
  turn_nowhere h m = sym (choose_no _ _ (rw (lt-ltb s vol.junctions h) m))

  -- nor does a descending one
  turn_descending : vol.junctions ≤ s → None ≡ lead_of (web_of vol d) s 0
  unfolding network_of
  turn_descending h = sym (choose_no _ _ (rw (le-ltb s vol.junctions h)))

  -- so the turn is offered
  pub turn_offered : (n f : ℕ) (marks : List Bool) (w v : List ℕ) → n ≡ vol.junctions → 8 * n ≤ length w → MarksBelow vol d vol.junctions marks
      → v ≡ turned marks n s a f w → Holds (states_of vol) w v (offer (web_of vol d) s a 0 (labels (states_of vol) w))
  turn_offered n f marks w v count room M is = go (dec_lt s n) (get_or marks s false) refl
    where
      skipped : None ≡ lead_of (web_of vol d) s 0 → w ≡ turned marks n s a f w
          → Holds (states_of vol) w v (offer (web_of vol d) s a 0 (labels (states_of vol) w))
      skipped e q = rw (is ∙ sym q) (arc_skipped (web_of vol d) (states_of vol) s a 0 w e)

      go : Dec (s < n) → (b : Bool) → get_or marks s false ≡ b
          → Holds (states_of vol) w v (offer (web_of vol d) s a 0 (labels (states_of vol) w))
      go (yes h) true m =
          let l : s < vol.junctions = omega arith in
          arc_offered (web_of vol d) (states_of vol) s a 0 w (vol.junctions + s)
          (turn_lead l (sym (M s l) ∙ m)) (omega arith) f a 0 v refl refl (omega arith)
          (is ∙ sym (turn_made marks n s a f w h m) ∙ ap (λ (m : ℕ). offer_to w f (m + s) a 0) count)
      go (yes h) false m =
          let l : s < vol.junctions = omega arith in
          skipped (turn_nowhere l (sym (M s l) ∙ m)) (turn_unmarked marks n s a f w h m)
      go (no g) b m = skipped (turn_descending (omega arith)) (turn_none marks n s a f w (omega arith))

-- The walk

module _ (vol : Volume) (d s a u : ℕ) (place : u ≡ place_of vol.junctions s) (L : Table) where
  -- edges between two of the state's own are passed over
  passed : (i e : ℕ) → i ≤ vol.edges → e ≡ next_from vol u i
      → relax (web_of vol d) s a (suc i) L ≡ relax (web_of vol d) s a (suc e) L
  passed i e h q =
      sym (relax_skips (web_of vol d) s a (suc i) (suc e) L (omega (arith, next_low vol u i h)) idle)
    where
      idle : (k : ℕ) → suc i ≤ k → k < suc e → leaves_by (network_of vol) d s k ≡ false
      idle zero l m = absurd (omega arith)
      idle (suc j) l m = leaves_away vol d s j (λ z. next_skips vol u i j h (omega arith) (omega arith) (z ∙ sym place))

  module _ (w₀ : List ℕ) where
    -- the walk begins after the turn
    pub walk_begins : (e : ℕ) → labels (states_of vol) w₀ ≡ relax (web_of vol d) s a 1 L → e ≡ next_from vol u 0
        → Holds (states_of vol) w₀ w₀ (relax (web_of vol d) s a (suc e) L)
    walk_begins e is q = holds_as _ _ _ _ _ (is ∙ passed 0 e (omega arith) q) (holds_same (states_of vol) w₀)

    -- one edge more
    pub walk_more : (e f : ℕ) (w v : List ℕ) → e < vol.edges → f ≡ next_from vol u (e + 1)
        → Holds (states_of vol) w₀ w (relax (web_of vol d) s a (suc e) L)
        → Holds (states_of vol) w v (offer (web_of vol d) s a (suc e) (labels (states_of vol) w))
        → Holds (states_of vol) w₀ v (relax (web_of vol d) s a (suc f) L)
    walk_more e f w v l q before one =
        holds_as _ _ _ _ _
        (sym (relax_more (web_of vol d) s a (suc e) L)
        ∙ ap (λ (n : ℕ). relax (web_of vol d) s a (suc n) L) (sym (add-one e))
        ∙ passed (e + 1) f (omega arith) q)
        (holds_then (states_of vol) w₀ w v (relax (web_of vol d) s a (suc e) L) (offer (web_of vol d) s a (suc e)) before one)

-- the turn and the whole walk are all arcs
pub walk_ends : (vol : Volume) (d s a e : ℕ) (w₀ w v : List ℕ) → e ≡ vol.edges
    → Holds (states_of vol) w₀ w (offer (web_of vol d) s a 0 (labels (states_of vol) w₀))
    → ((L : Table) → labels (states_of vol) w ≡ relax (web_of vol d) s a 1 L → Holds (states_of vol) w v (relax (web_of vol d) s a (suc e) L))
    → Holds (states_of vol) w₀ v (relax (web_of vol d) s a (web_of vol d).arcs (labels (states_of vol) w₀))
unfolding relax network_of
walk_ends vol d s a e w₀ w v q turn walk =
    let L = labels (states_of vol) w₀ in
    let H = walk L turn.table in
    record { table = H.table ∙ ap (λ (n : ℕ). relax (web_of vol d) s a (suc n) L) q; tail = H.tail ∙ turn.tail; size = H.size ∙ turn.size }

-- One unit

-- the state settled, and then all its offers, where n is the number of junctions
pub unit_done : (vol : Volume) (d s a n : ℕ) (w₀ w v : List ℕ) → n ≡ vol.junctions
    → Holds (n + n) w₀ w (put (labels (n + n) w₀) s (settle_label (labels (n + n) w₀ s)))
    → Holds (states_of vol) w v (relax (web_of vol d) s a (web_of vol d).arcs (labels (states_of vol) w))
    → Holds (states_of vol) w₀ v (settle (web_of vol d) s a (labels (states_of vol) w₀))
unfolding settle
unit_done vol d s a n w₀ w v count one offers =
    holds_then (states_of vol) w₀ w v _ (relax (web_of vol d) s a (web_of vol d).arcs) (rw count at one) offers
