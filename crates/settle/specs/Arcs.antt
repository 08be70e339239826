-- The arcs by which a settled state makes its offers, as the code walks them: the turn, then the state's own edges in rising order
-- through the index. Arcs that are passed over change nothing, so after the walk all arcs are offered.
use Rattle.std.specs.Prelude.{ℕ, zero, suc, ◌+◌, ◌-◌, ◌*◌, ◌^◌, ◌≤◌, ◌<◌, Bool, true, ◌&&◌, List, ◌≢◌, ◌≡◌, refl, Option, None, Some, ltb, length, get_or}
use Rattle.std.proofs.Math.Bool.{false}
use Rattle.std.proofs.Math.Path.{sym}
use Rattle.std.proofs.Common.{◌∙◌, ap, ap₂}
use native.Mathlib.Omega.{arith}
use Rattle.std.proofs.Math.Decide.{dec_lt}
use borrow.Author.Tests.{eq-eqb, ne_eqb, lt-ltb, le-ltb}
use Rattle.block.specs.Choose.{choose, choose_yes, choose_no, choose_first}
use Rattle.theory.specs.Settling.{Web, Label, Table, put, offered, offer, leaves_by, leads_to, web}
use Rattle.theory.specs.Marks.{marked}
use Rattle.theory.specs.Computing.{offer_skips, offer_makes}
use Rattle.records.specs.Format.{Volume, volume_of, Laid}
use Rattle.volume.specs.Sound.{Sound}
use Rattle.records.specs.declared.tables.Tables.{Tables}
use Rattle.travel.specs.Network.{network_of, arrival, Enters}
use Rattle.travel.specs.Halves.{edge_short}
use Rattle.settle.specs.Work.{label_of, label_at, labels, labels_in, Holds, holds_same, holds_as}
use Rattle.settle.specs.Offered.{offer_to, put_again, holds_offer, rechained_offer}
use Rattle.settle.specs.Marked.{MarksBelow}

-- the rule's states and arcs on a volume, where d is the destination
abbrev pub web_of : Volume → ℕ → Web
web_of vol d = web (network_of vol) d

-- how many states there are: each junction climbing, and each descending
abbrev pub states_of : Volume → ℕ
states_of vol = vol.junctions + vol.junctions

-- the junction at which state s stands, of n junctions
unfoldable pub place_of : ℕ → ℕ → ℕ
place_of n s = choose (ltb s n) s (s - n)

-- a climbing state stands at the junction of its own number
pub place_climbing : (n s : ℕ) → s < n → place_of n s ≡ s
unfolding place_of
place_climbing n s h = choose_yes s (s - n) (lt-ltb s n h)

-- a descending one N below it
pub place_descending : (n s : ℕ) → n ≤ s → place_of n s ≡ s - n
unfolding place_of
place_descending n s h = choose_no s (s - n) (le-ltb s n h)

-- both
pub ruleset place_cases = (place_climbing, place_descending)

-- it is a junction
pub place_below : (n s : ℕ) → s < n + n → place_of n s < n
place_below n s h = go (dec_lt s n)
  where
    go : Dec (s < n) → place_of n s < n
    go (yes l) = rw (place_climbing n s l) l
    go (no g) = rw (place_descending n s (omega arith)) (omega arith)

-- what a state's offers need: the volume, its number of junctions, room for the marks, and that s is a state
pub record Ready (v : List ℕ) (t : Tables) (n : ℕ) (marks : List Bool) (s : ℕ) : Type 0 where
  pub laid : Laid v t
  pub sound : Sound (volume_of v)
  pub count : n ≡ (volume_of v).junctions
  pub marks_room : n ≤ length marks
  pub state : s < n + n

-- for every destination that has these marks, the work area w₀ became w as `f` of the rule says
abbrev pub Does : Volume → List Bool → List ℕ → List ℕ → (Web → Table → Table) → Type 0
Does vol marks w₀ w f =
    (d : ℕ) → MarksBelow vol d vol.junctions marks → Holds (states_of vol) w₀ w (f (web_of vol d) (labels (states_of vol) w₀))

-- Where an edge leads

-- the state to which state s offers arc k, if it does
abbrev pub lead_of : Web → ℕ → ℕ → Option ℕ
lead_of W s k = choose (W.leaves s k) (Some (W.to s k)) None

-- a lead is to one of S states
abbrev pub LeadsBelow : ℕ → Option ℕ → Type 0
LeadsBelow S (Some w) = w < S
LeadsBelow S None = Unit {0}

-- so the state that it names is
pub lead_below : (S w : ℕ) (r : Option ℕ) → r ≡ Some w → LeadsBelow S r → w < S
lead_below S w r e h = rw e at h

-- a lead to w: the arc is offered, and leads there
pub leads_on : (W : Web) (s k w : ℕ) → Some w ≡ lead_of W s k → (W.leaves s k ≡ true) × (W.to s k ≡ w)
leads_on W s k w e =
    let f = choose_first (W.leaves s k) (Some (W.to s k)) None (Some w) (sym e) (λ q. let z : ◌≡◌ {A = ℕ} 0 1 = cc in omega arith) in
    (f.0, let q = f.1 in cc)

-- no lead: the arc is not offered
pub leads_nowhere : (W : Web) (s k : ℕ) → None ≡ lead_of W s k → W.leaves s k ≡ false
leads_nowhere W s k e = go (W.leaves s k) refl
  where
    go : (b : Bool) → W.leaves s k ≡ b → W.leaves s k ≡ false
    go true q = let f = e ∙ choose_yes (Some (W.to s k)) None q in let z : ◌≡◌ {A = ℕ} 0 1 = cc in absurd (omega arith)
    go false q = q

module _ (vol : Volume) (d : ℕ) where
  -- a climbing state offers its edge to higher rank
  leaves_up : (s e : ℕ) → s < vol.junctions → vol.edge_from e ≡ s → leaves_by (network_of vol) d s (suc e) ≡ ltb s (vol.edge_to e)
  unfolding network_of
  leaves_up s e h f = rw (lt-ltb s vol.junctions h, eq-eqb (vol.edge_from e) s f)

  -- a descending one its edge to a lower marked junction
  leaves_down : (s e : ℕ) → vol.junctions ≤ s → vol.edge_from e ≡ s - vol.junctions
      → leaves_by (network_of vol) d s (suc e) ≡ (ltb (vol.edge_to e) (vol.edge_from e) && marked (network_of vol) d (vol.edge_to e))
  unfolding network_of
  leaves_down s e h f = rw (le-ltb s vol.junctions h, eq-eqb (vol.junctions + vol.edge_from e) s (omega arith))

  -- a climbing state is led to the edge's end, climbing
  leads_up : (s e : ℕ) → s < vol.junctions → leads_to (network_of vol) d s (suc e) ≡ vol.edge_to e
  unfolding network_of
  leads_up s e h = rw (lt-ltb s vol.junctions h)

  -- a descending one to the edge's end, descending
  leads_down : (s e : ℕ) → vol.junctions ≤ s → leads_to (network_of vol) d s (suc e) ≡ vol.junctions + vol.edge_to e
  unfolding network_of
  leads_down s e h = rw (le-ltb s vol.junctions h)

  module _ (n s e w : ℕ) (count : n ≡ vol.junctions) (begins : vol.edge_from e ≡ place_of n s) (ends : w ≡ vol.edge_to e) where
    -- the edge begins at the junction of a climbing state
    up : s < n → vol.edge_from e ≡ s
    up h = begins ∙ place_climbing n s h

    -- and of a descending one
    down : n ≤ s → vol.edge_from e ≡ s - vol.junctions
    down h = begins ∙ place_descending n s h ∙ ap (λ (m : ℕ). s - m) count

    -- climbing, to higher rank
    pub lead_up : s < n → s < w → Some w ≡ lead_of (web_of vol d) s (suc e)
    lead_up h l =
        ap Some (ends ∙ sym (leads_up s e (omega arith)))
        ∙ sym (choose_yes _ _ (leaves_up s e (omega arith) (up h) ∙ lt-ltb s (vol.edge_to e) (omega arith)))

    -- climbing, to lower rank
    pub lead_not_up : s < n → w ≤ s → None ≡ lead_of (web_of vol d) s (suc e)
    lead_not_up h l = sym (choose_no _ _ (leaves_up s e (omega arith) (up h) ∙ le-ltb s (vol.edge_to e) (omega arith)))

    -- descending, to a lower marked junction
    pub lead_down : n ≤ s → w < s - n → marked (network_of vol) d w ≡ true → Some (n + w) ≡ lead_of (web_of vol d) s (suc e)
    lead_down h l m =
        let f = down h in
        ap Some (ap₂ ◌+◌ count ends ∙ sym (leads_down s e (omega arith)))
        ∙ sym (choose_yes _ _
        (leaves_down s e (omega arith) f
        ∙ rw (lt-ltb (vol.edge_to e) (vol.edge_from e) (omega arith)) (sym (ap (marked (network_of vol) d) ends) ∙ m)))

    -- descending, to higher rank
    pub lead_not_down : n ≤ s → s - n ≤ w → None ≡ lead_of (web_of vol d) s (suc e)
    lead_not_down h l =
        let f = down h in
        sym (choose_no _ _ (leaves_down s e (omega arith) f ∙ rw (le-ltb (vol.edge_to e) (vol.edge_from e) (omega arith))))

    -- descending, to a junction that is not marked
    pub lead_unmarked : n ≤ s → w < s - n → marked (network_of vol) d w ≡ false → None ≡ lead_of (web_of vol d) s (suc e)
    lead_unmarked h l m =
        let f = down h in
        sym (choose_no _ _
        (leaves_down s e (omega arith) f
        ∙ rw (lt-ltb (vol.edge_to e) (vol.edge_from e) (omega arith)) (sym (ap (marked (network_of vol) d) ends) ∙ m)))

  -- an edge of another junction is not offered
  pub leaves_away : (s e : ℕ) → vol.edge_from e ≢ place_of vol.junctions s → leaves_by (network_of vol) d s (suc e) ≡ false
  unfolding network_of
  leaves_away s e ne = go (dec_lt s vol.junctions)
    where
      go : Dec (s < vol.junctions) → leaves_by (network_of vol) d s (suc e) ≡ false
      go (yes h) =
          rw (lt-ltb s vol.junctions h, ne_eqb (vol.edge_from e) s (λ q. ne (q ∙ sym (place_climbing vol.junctions s h))))
      go (no g) =
          let h : vol.junctions ≤ s = omega arith in
          rw (
            le-ltb s vol.junctions h,
            ne_eqb (vol.junctions + vol.edge_from e) s (λ q. ne (let z : vol.edge_from e ≡ s - vol.junctions = omega arith in z ∙ sym (place_descending vol.junctions s h))),
          )

-- where an edge leads, in every case
pub ruleset lead_cases = (lead_up, lead_not_up, lead_down, lead_not_down, lead_unmarked)

-- One arc

-- an offer to a settled state changes nothing
offered_settled : (w : List ℕ) (s b k : ℕ) → 2 ≤ get_or w (4 * s) 0 → offered (label_at w s) b k ≡ label_at w s
offered_settled w s b k h = go (get_or w (4 * s) 0) h
  where
    go : (kind : ℕ) → 2 ≤ kind → offered (label_of kind (get_or w (4 * s + 1) 0) (get_or w (4 * s + 2) 0)) b k
        ≡ label_of kind (get_or w (4 * s + 1) 0) (get_or w (4 * s + 2) 0)
    go zero h = absurd (omega arith)
    go (suc zero) h = absurd (omega arith)
    go (suc (suc m)) h = refl

module _ (W : Web) (S s a k : ℕ) (w : List ℕ) where
  -- an arc that is not offered
  pub arc_skipped : None ≡ lead_of W s k → Holds S w w (offer W s a k (labels S w))
  arc_skipped e =
      holds_as S w w (labels S w) (offer W s a k (labels S w)) (sym (offer_skips W s a k (labels S w) (leads_nowhere W s k e))) (holds_same S w)

  module _ (to : ℕ) (e : Some to ≡ lead_of W s k) (inside : to < S) where
    -- the rule's offer, as a put at the state that the lead names
    is_offer : (b : ℕ) → W.arr k a ≡ b → offer W s a k (labels S w) ≡ put (labels S w) to (offered (labels S w to) b k)
    is_offer b q =
        let f = leads_on W s k to e in
        offer_makes W s a k (labels S w) f.0
        ∙ ap₂ (λ (t b : ℕ). put (labels S w) t (offered (labels S w t) b k)) f.1 q

    -- one to a settled state
    pub arc_settled : 2 ≤ get_or w (4 * to) 0 → Holds S w w (offer W s a k (labels S w))
    arc_settled h =
        holds_as S w w (labels S w) (offer W s a k (labels S w))
        (put_again (labels S w) to (offered (labels S w to) (W.arr k a) k)
        (ap (λ (l : Label). offered l (W.arr k a) k) (labels_in S w to inside)
        ∙ offered_settled w to (W.arr k a) k h
        ∙ sym (labels_in S w to inside))
        ∙ sym (is_offer (W.arr k a) refl))
        (holds_same S w)

    -- one that is offered, with its arrival b
    pub arc_offered : (h b j : ℕ) (v : List ℕ) → b ≡ W.arr k a → j ≡ k → 4 * S ≤ length w → v ≡ offer_to w h to b j
        → Holds S w v (offer W s a k (labels S w))
    arc_offered h b j v q i room is =
        rw (is, i)
        (holds_as S w (offer_to w h to b k) (put (labels S w) to (offered (labels S w to) b k)) (offer W s a k (labels S w)) (sym (is_offer b (sym q)))
        (holds_offer S w h to b k inside room))

-- an arc that changes nothing, and that the chain stands after an offer
pub ruleset arc_steps = (arc_skipped, arc_settled, rechained_offer)

-- an edge entered before 2 ^ 62 can be asked for its time
pub enters_soon : (vol : Volume) → Sound vol → (e a : ℕ) → e < vol.edges → a < 2 ^ 62 → Enters vol e a
enters_soon vol S e a h l = record { there = h; fits = omega (arith, (S.edge e h).span) }

-- and its arrival is a number of the code
pub arrives_soon : (vol : Volume) → Sound vol → (e a r : ℕ) → e < vol.edges → a < 2 ^ 62 → a + r ≡ arrival vol e a → a + r < 2 ^ 63
arrives_soon vol S e a r h l q = omega (arith, (S.edge e h).span, edge_short vol S e a h)
