-- The scan of the chain for the least waiting state: the pick so far beside one state more, what is known halfway, and that the pick at
-- the end is the theory's. What the chain is, is in Chain; what is seen with the pick is in Seen.
use Rattle.std.specs.Prelude.{ℕ, zero, suc, ◌+◌, ◌*◌, ◌≤◌, ◌<◌, List, [], ◌∷◌, ◌≢◌, ◌⊎◌, ◌≡◌, refl, Option, None, Some, ltb, eqb, length, get_or}
use Rattle.std.proofs.Common.{inl, inr, ⊎_elim, sym, ◌∙◌, ap, ap₂, arith, lt-ltb, le-ltb, eq-eqb, ne_eqb}
use Rattle.std.proofs.Math.Decide.{ℕ_discrete, dec_lt}
use Rattle.block.specs.Choose.{choose, choose_yes, choose_no}
use Rattle.theory.specs.Settling.{Table, Pick as Picking, nobody, picked, least}
use Rattle.theory.specs.Labels.{Waits}
use Rattle.theory.specs.Looks.{Picks}
use Rattle.theory.proofs.Looks.{least_right}
use Rattle.settle.specs.Work.{label_of, labels, labels_in}
use Rattle.settle.specs.Chain.{WaitsAt, after, Among, Leads, Chained, Precedes, few}
use Rattle.settle.specs.declared.seen.Waiting.{Waiting}

-- a pick, in the theory's words
abbrev pub pick_of : Option Waiting → Picking
pick_of None = nobody
pick_of (Some p) = picked p.state p.arrival

-- the picked state comes in the chain from h after the one that the pick names
abbrev pub PickLinked : ℕ → List ℕ → ℕ → Option Waiting → Type 0
PickLinked S w h None = Unit {0}
PickLinked S w h (Some p) = Precedes S w h p.before p.state

-- so the state of a pick is linked there
pub pick_linked : (S : ℕ) (w : List ℕ) (h : ℕ) (p : Waiting) (q : Option Waiting) → q ≡ Some p → PickLinked S w h q → Precedes S w h p.before p.state
pick_linked S w h p q e l = rw e at l

-- One state more

-- state t, which waits in the work area and comes after b
abbrev pub found_at : List ℕ → ℕ → ℕ → Waiting
found_at w t b = record { state = t; arrival = get_or w (4 * t + 1) 0; before = b }

-- a waiting state beside the pick so far: it is taken where its arrival is less, or as early and its number lower
unfoldable pub sooner_of : Option Waiting → Waiting → Option Waiting
sooner_of None f = Some f
sooner_of (Some p) f =
    choose (ltb f.arrival p.arrival) (Some f)
    (choose (eqb f.arrival p.arrival) (choose (ltb f.state p.state) (Some f) (Some p)) (Some p))

-- it is the first
pub sooner_first : (f : Waiting) → sooner_of None f ≡ Some f
unfolding sooner_of
sooner_first f = refl

module _ (p f : Waiting) where
  -- its arrival is less
  pub sooner_less : f.arrival < p.arrival → sooner_of (Some p) f ≡ Some f
  unfolding sooner_of
  sooner_less h = choose_yes _ _ (lt-ltb f.arrival p.arrival h)

  -- as early, and its number lower
  pub sooner_lower : f.arrival ≡ p.arrival → f.state < p.state → sooner_of (Some p) f ≡ Some f
  unfolding sooner_of
  sooner_lower e h =
      choose_no _ _ (le-ltb f.arrival p.arrival (omega arith)) ∙ choose_yes _ _ (eq-eqb f.arrival p.arrival e) ∙ choose_yes _ _ (lt-ltb f.state p.state h)

  -- as early, and its number higher
  pub sooner_higher : f.arrival ≡ p.arrival → p.state ≤ f.state → sooner_of (Some p) f ≡ Some p
  unfolding sooner_of
  sooner_higher e h =
      choose_no _ _ (le-ltb f.arrival p.arrival (omega arith)) ∙ choose_yes _ _ (eq-eqb f.arrival p.arrival e) ∙ choose_no _ _ (le-ltb f.state p.state h)

  -- its arrival is later
  pub sooner_later : p.arrival ≤ f.arrival → f.arrival ≢ p.arrival → sooner_of (Some p) f ≡ Some p
  unfolding sooner_of
  sooner_later h ne = choose_no _ _ (le-ltb f.arrival p.arrival h) ∙ choose_no _ _ (ne_eqb f.arrival p.arrival ne)

-- all of these
pub ruleset sooner_cases = (sooner_first, sooner_less, sooner_lower, sooner_higher, sooner_later)

-- The scan

-- state s with arrival a is before t, or is t: its arrival is less, or as early and its number no higher
abbrev pub NoLater : List ℕ → ℕ → ℕ → ℕ → Type 0
NoLater w s a t = (a < get_or w (4 * t + 1) 0) ⊎ ((a ≡ get_or w (4 * t + 1) 0) × (s ≤ t))

-- state s waits with a, and comes before every other that waits, but for those of ts
pub record PickedBut (S : ℕ) (w ts : List ℕ) (s a : ℕ) : Type 0 where
  pub inside : s < S
  pub waits : WaitsAt w s
  pub arrives : get_or w (4 * s + 1) 0 ≡ a
  pub others : (t : ℕ) → t < S → WaitsAt w t → Among t ts ⊎ NoLater w s a t

-- what a pick says of the states that wait, but for those of ts
abbrev pub PicksBut : ℕ → List ℕ → List ℕ → Option Waiting → Type 0
PicksBut S w ts None = (t : ℕ) → t < S → WaitsAt w t → Among t ts
PicksBut S w ts (Some p) = PickedBut S w ts p.state p.arrival

-- one of them more
picks_more : (S : ℕ) (w : List ℕ) (t : ℕ) (ts : List ℕ) (b : ℕ) (q : Option Waiting) → t < S → WaitsAt w t → PicksBut S w (t ∷ ts) q
    → PicksBut S w ts (sooner_of q (found_at w t b))
picks_more S w t ts b None l wt P =
    rw (sooner_first (found_at w t b))
    (record {
      inside = l;
      waits = wt;
      arrives = refl;
      others = λ u lu wu. ⊎_elim (λ (e : u ≡ t). inr (inr (ap (λ (n : ℕ). get_or w (4 * n + 1) 0) (sym e), omega arith))) inl (P u lu wu);
    })
picks_more S w t ts b (Some p) l wt P = go (dec_lt (get_or w (4 * t + 1) 0) p.arrival) (ℕ_discrete (get_or w (4 * t + 1) 0) p.arrival) (dec_lt t p.state)
  where
    a : ℕ
    a = get_or w (4 * t + 1) 0

    s : ℕ
    s = p.state

    c : ℕ
    c = p.arrival

    same : (u : ℕ) → u ≡ t → a ≡ get_or w (4 * u + 1) 0
    same u e = ap (λ (n : ℕ). get_or w (4 * n + 1) 0) (sym e)

    -- it is taken
    new : (a ≤ c) → (a ≡ c → t < s) → PickedBut S w ts t a
    new le lower = record {
      inside = l;
      waits = wt;
      arrives = refl;
      others = λ u lu wu. ⊎_elim
          (⊎_elim (λ (e : u ≡ t). inr (inr (same u e, omega arith))) inl)
          (λ k. inr (better u (ℕ_discrete a c) k))
          (P.others u lu wu);
    }
      where
        better : (u : ℕ) → Dec (a ≡ c) → NoLater w s c u → NoLater w t a u
        better u (yes e) (inl k) = inl (omega arith)
        better u (yes e) (inr k) = inr (omega (arith, k.0), omega (arith, k.1, lower e))
        better u (no ne) (inl k) = inl (omega arith)
        better u (no ne) (inr k) = inl (omega (arith, k.0))

    -- it is not
    old : NoLater w s c t → PickedBut S w ts s c
    old k = record {
      inside = P.inside;
      waits = P.waits;
      arrives = P.arrives;
      others = λ u lu wu. ⊎_elim (⊎_elim (λ (e : u ≡ t). inr (rw e k)) inl) inr (P.others u lu wu);
    }

    go : Dec (a < c) → Dec (a ≡ c) → Dec (t < s) → PicksBut S w ts (sooner_of (Some p) (found_at w t b))
    go (yes h) e k = rw (sooner_less p (found_at w t b) h) (new (omega arith) (λ e. absurd (omega arith)))
    go (no h) (yes e) (yes k) = rw (sooner_lower p (found_at w t b) e k) (new (omega arith) (λ e. k))
    go (no h) (yes e) (no k) = rw (sooner_higher p (found_at w t b) e (omega arith)) (old (inr (sym e, omega arith)))
    go (no h) (no ne) k = rw (sooner_later p (found_at w t b) (omega arith) ne) (old (inl (omega arith)))

-- and the pick stays linked
linked_more : (S : ℕ) (w : List ℕ) (h : ℕ) (q : Option Waiting) (f : Waiting) → Precedes S w h f.before f.state → PickLinked S w h q
    → PickLinked S w h (sooner_of q f)
linked_more S w h None f l k = rw (sooner_first f) l
linked_more S w h (Some p) f l k = go (dec_lt f.arrival p.arrival) (ℕ_discrete f.arrival p.arrival) (dec_lt f.state p.state)
  where
    go : Dec (f.arrival < p.arrival) → Dec (f.arrival ≡ p.arrival) → Dec (f.state < p.state) → PickLinked S w h (sooner_of (Some p) f)
    go (yes g) e i = rw (sooner_less p f g) l
    go (no g) (yes e) (yes i) = rw (sooner_lower p f e i) l
    go (no g) (yes e) (no i) = rw (sooner_higher p f e (omega arith)) k
    go (no g) (no ne) i = rw (sooner_later p f (omega arith) ne) k

-- the chain from h is scanned up to t, which comes after b; q is the pick so far
pub record Scanned (S : ℕ) (w : List ℕ) (h : ℕ) (q : Option Waiting) (b t : ℕ) : Type 0 where
  pub rest : List ℕ
  pub leads : Leads S w t rest
  pub fewer : length rest ≤ S
  pub inside : (u : ℕ) → Among u rest → u < S
  pub waits : (u : ℕ) → Among u rest → WaitsAt w u
  pub picks : PicksBut S w rest q
  pub linked : PickLinked S w h q
  pub follows : Precedes S w h b t

-- nothing is scanned yet
pub scan_first : (S : ℕ) (w : List ℕ) (h : ℕ) → Chained S w h → Scanned S w h None S h
scan_first S w h C = record {
  rest = C.chain;
  leads = C.leads;
  fewer = few S C.chain C.once C.inside;
  inside = C.inside;
  waits = C.waits;
  picks = C.all;
  linked = tt;
  follows = inl (refl, refl);
}

-- how many states the chain goes through from t, at most n
unfoldable pub steps : ℕ → ℕ → List ℕ → ℕ → ℕ
steps zero S w t = 0
steps (suc n) S w t = choose (ltb t S) (suc (steps n S w (after w t))) 0

-- as many as there are
steps_are : (n S : ℕ) (w : List ℕ) (t : ℕ) (ts : List ℕ) → Leads S w t ts → ((u : ℕ) → Among u ts → u < S) → length ts ≤ n
    → steps n S w t ≡ length ts
unfolding steps
steps_are zero S w t [] c i l = refl
steps_are zero S w t (u ∷ us) c i l = absurd (omega arith)
steps_are (suc n) S w t [] c i l = choose_no _ _ (le-ltb t S (omega arith))
steps_are (suc n) S w t (u ∷ us) c i l =
    choose_yes _ _ (lt-ltb t S (omega (arith, c.0, i u (inl refl))))
    ∙ ap suc (steps_are n S w (after w t) us (rw c.0 c.1) (λ v m. i v (inr m)) (omega arith))

module _ (S : ℕ) (w : List ℕ) (h : ℕ) (q : Option Waiting) (b t : ℕ) (C : Scanned S w h q b t) where
  -- a state is left
  module _ (l : t < S) where
    -- it is scanned
    pub scan_more : Scanned S w h (sooner_of q (found_at w t b)) t (after w t)
    scan_more = go C.rest C.leads C.fewer C.inside C.waits C.picks
      where
        go : (ts : List ℕ) → Leads S w t ts → length ts ≤ S → ((u : ℕ) → Among u ts → u < S) → ((u : ℕ) → Among u ts → WaitsAt w u)
            → PicksBut S w ts q → Scanned S w h (sooner_of q (found_at w t b)) t (after w t)
        go [] c f i ws p = absurd (omega arith)
        go (u ∷ us) c f i ws p =
            let wt : WaitsAt w t = rw c.0 (ws u (inl refl)) in
            record {
              rest = us;
              leads = rw c.0 c.1;
              fewer = omega arith;
              inside = λ x m. i x (inr m);
              waits = λ x m. ws x (inr m);
              picks = picks_more S w t us b q l wt (rw (sym c.0) at p);
              linked = linked_more S w h q (found_at w t b) C.follows C.linked;
              follows = inr (l, wt, refl);
            }

    -- and one less is left
    pub scan_less : steps S S w (after w t) < steps S S w t
    scan_less = go C.rest C.leads C.fewer C.inside
      where
        go : (ts : List ℕ) → Leads S w t ts → length ts ≤ S → ((u : ℕ) → Among u ts → u < S) → steps S S w (after w t) < steps S S w t
        go [] c f i = absurd (omega arith)
        go (u ∷ us) c f i =
            omega (
              arith,
              steps_are S S w t (u ∷ us) c i f,
              steps_are S S w (after w t) us (rw c.0 c.1) (λ x m. i x (inr m)) (omega arith),
            )

-- The least

-- a state that waits has kind 1 and that arrival
pub waits_at : (S : ℕ) (w : List ℕ) (t b : ℕ) → t < S → Waits (labels S w t) b → WaitsAt w t × (get_or w (4 * t + 1) 0 ≡ b)
waits_at S w t b l q = go (get_or w (4 * t) 0) (rw (labels_in S w t l) at q)
  where
    go : (kind : ℕ) → Waits (label_of kind (get_or w (4 * t + 1) 0) (get_or w (4 * t + 2) 0)) b → (kind ≡ 1) × (get_or w (4 * t + 1) 0 ≡ b)
    go zero q = absurd q
    go (suc zero) q = (refl, q)
    go (suc (suc n)) q = absurd q

-- and one of kind 1 waits
at_waits : (S : ℕ) (w : List ℕ) (t b : ℕ) → t < S → WaitsAt w t → get_or w (4 * t + 1) 0 ≡ b → Waits (labels S w t) b
at_waits S w t b l k q = rw (labels_in S w t l, k) q

-- a pick that says so of all is the theory's
picks_right : (S : ℕ) (w : List ℕ) (q : Option Waiting) → PicksBut S w [] q → Picks (labels S w) S (pick_of q)
picks_right S w None P = λ t b l q. P t l (waits_at S w t b l q).0
picks_right S w (Some p) P = record {
  inside = P.inside;
  waits = at_waits S w p.state p.arrival P.inside P.waits P.arrives;
  least_of = λ t b l q.
      let e = waits_at S w t b l q in ⊎_elim absurd (⊎_elim (λ k. omega (arith, e.1)) (λ k. omega (arith, k.0, e.1))) (P.others t l e.0);
  lowest = λ t b l q le.
      let e = waits_at S w t b l q in ⊎_elim absurd (⊎_elim (λ k. absurd (omega (arith, e.1))) (λ k. k.1)) (P.others t l e.0);
}

-- there is one such pick
picks_one : (L : Table) (n : ℕ) (p q : Picking) → Picks L n p → Picks L n q → p ≡ q
picks_one L n nobody nobody P Q = refl
picks_one L n nobody (picked s a) P Q = absurd (P s a Q.inside Q.waits)
picks_one L n (picked s a) nobody P Q = absurd (Q s a P.inside P.waits)
picks_one L n (picked s a) (picked t b) P Q =
    let e : a ≡ b = omega (arith, P.least_of t b Q.inside Q.waits, Q.least_of s a P.inside P.waits) in
    let i : s ≡ t = omega (arith, P.lowest t b Q.inside Q.waits (omega arith), Q.lowest s a P.inside P.waits (omega arith)) in
    ap₂ picked i e

-- at the end of the chain the pick is the least
pub scan_ends : (S : ℕ) (w : List ℕ) (h : ℕ) (q : Option Waiting) (b t : ℕ) → Scanned S w h q b t → S ≤ t → pick_of q ≡ least S (labels S w)
scan_ends S w h q b t C l = go C.rest C.leads C.inside C.picks
  where
    go : (ts : List ℕ) → Leads S w t ts → ((u : ℕ) → Among u ts → u < S) → PicksBut S w ts q → pick_of q ≡ least S (labels S w)
    go [] c i p = picks_one (labels S w) S (pick_of q) (least S (labels S w)) (picks_right S w q p) (least_right (labels S w) S)
    go (u ∷ us) c i p = absurd (omega (arith, c.0, i u (inl refl)))
