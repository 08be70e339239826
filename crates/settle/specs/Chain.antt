-- The chain of the waiting states: the spare number of a state in the work area leads to the next one, and S, the number of states, ends
-- the chain. It is in no order. Here is what a chain is and what becomes of it where a state is put in front, where one is taken out, and
-- where something else is written. How the least of its states is found is in Scan.
use Rattle.std.specs.Prelude.{ℕ, zero, suc, ◌+◌, ◌*◌, ◌≤◌, ◌<◌, List, [], ◌∷◌, ◌≢◌, ◌⊎◌, ◌≡◌, refl, length, get_or, set}
use Rattle.std.proofs.Common.{inl, inr, ⊎_elim, sym, ◌∙◌, arith, not-suc-le-zero, length-set, get_or-set_same, get_or-set_other}
use Rattle.std.proofs.Math.Decide.{ℕ_discrete}

-- state t waits
abbrev pub WaitsAt : List ℕ → ℕ → Type 0
WaitsAt w t = get_or w (4 * t) 0 ≡ 1

-- what the chain leads to after state t
abbrev pub after : List ℕ → ℕ → ℕ
after w t = get_or w (4 * t + 3) 0

-- t is one of the states
abbrev pub Among : ℕ → List ℕ → Type 0
Among t [] = ⊥
Among t (u ∷ us) = (t ≡ u) ⊎ Among t us

-- none of the states comes twice
abbrev pub Once : List ℕ → Type 0
Once [] = Unit {0}
Once (t ∷ ts) = (Among t ts → ⊥) × Once ts

-- the chain from h goes through these states and ends
abbrev pub Leads : ℕ → List ℕ → ℕ → List ℕ → Type 0
Leads S w h [] = h ≡ S
Leads S w h (t ∷ ts) = (h ≡ t) × Leads S w (after w t) ts

-- the chain from h goes once through each of S states that waits, and through no other
pub record Chained (S : ℕ) (w : List ℕ) (h : ℕ) : Type 0 where
  pub chain : List ℕ
  pub leads : Leads S w h chain
  pub once : Once chain
  pub inside : (t : ℕ) → Among t chain → t < S
  pub waits : (t : ℕ) → Among t chain → WaitsAt w t
  pub all : (t : ℕ) → t < S → WaitsAt w t → Among t chain

-- b is the state before t in the chain from h, or S where t is the first
abbrev pub Precedes : ℕ → List ℕ → ℕ → ℕ → ℕ → Type 0
Precedes S w h b t = ((b ≡ S) × (h ≡ t)) ⊎ ((b < S) × WaitsAt w b × (after w b ≡ t))

-- where w₀ was chained from h₀, w is chained from h
abbrev pub Rechained : ℕ → List ℕ → ℕ → List ℕ → ℕ → Type 0
Rechained S w₀ h₀ w h = Chained S w₀ h₀ → Chained S w h

-- Other stores

-- a chain stands where its states lead on as before
leads_same : (S : ℕ) (w v : List ℕ) (h : ℕ) (ts : List ℕ) → ((t : ℕ) → Among t ts → after v t ≡ after w t) → Leads S w h ts → Leads S v h ts
leads_same S w v h [] e l = l
leads_same S w v h (t ∷ ts) e l = (l.0, rw (e t (inl refl)) (leads_same S w v (after w t) ts (λ u m. e u (inr m)) l.1))

-- where nothing waits the chain is empty
pub chained_none : (S : ℕ) (w : List ℕ) → ((t : ℕ) → t < S → get_or w (4 * t) 0 ≡ 0) → Chained S w S
chained_none S w z = record {
  chain = [];
  leads = refl;
  once = tt;
  inside = λ t m. absurd m;
  waits = λ t m. absurd m;
  all = λ t h q. absurd (omega (arith, z t h));
}

-- the same states wait and lead on as before
pub chained_same : (S : ℕ) (w v : List ℕ) (h : ℕ) → ((t : ℕ) → WaitsAt w t → WaitsAt v t) → ((t : ℕ) → WaitsAt v t → WaitsAt w t)
    → ((t : ℕ) → after v t ≡ after w t) → Chained S w h → Chained S v h
chained_same S w v h f g e C = record {
  chain = C.chain;
  leads = leads_same S w v h C.chain (λ t m. e t) C.leads;
  once = C.once;
  inside = C.inside;
  waits = λ t m. f t (C.waits t m);
  all = λ t h q. C.all t h (g t q);
}

-- One state more

-- state s, which did not wait, in front
pub chained_more : (S : ℕ) (w v : List ℕ) (h s : ℕ) → s < S → (WaitsAt w s → ⊥) → WaitsAt v s → after v s ≡ h
    → ((t : ℕ) → t ≢ s → get_or v (4 * t) 0 ≡ get_or w (4 * t) 0) → ((t : ℕ) → t ≢ s → after v t ≡ after w t)
    → Chained S w h → Chained S v s
chained_more S w v h s inside not now on kinds afters C = record {
  chain = s ∷ C.chain;
  leads = (refl, rw on (leads_same S w v h C.chain (λ t m. afters t (other t m)) C.leads));
  once = (λ m. not (C.waits s m), C.once);
  inside = λ t. ⊎_elim (λ e. omega arith) (C.inside t);
  waits = λ t. ⊎_elim (λ (e : t ≡ s). rw e now) (λ m. kinds t (other t m) ∙ C.waits t m);
  all = λ t l q. found t l q (ℕ_discrete t s);
}
  where
    other : (t : ℕ) → Among t C.chain → t ≢ s
    other t m e = not (rw e at (C.waits t m))

    found : (t : ℕ) → t < S → WaitsAt v t → Dec (t ≡ s) → Among t (s ∷ C.chain)
    found t l q (yes e) = inl e
    found t l q (no ne) = inr (C.all t l (sym (kinds t ne) ∙ q))

-- One state less

-- us are the states ts without s
record Without (s : ℕ) (ts us : List ℕ) : Type 0 where
  one_less : length ts ≤ suc (length us)
  kept : (t : ℕ) → t ≢ s → Among t ts → Among t us
  was : (t : ℕ) → Among t us → (t ≢ s) × Among t ts
  once : Once us

-- the first
without_first : (s : ℕ) (ts : List ℕ) → Once (s ∷ ts) → Without s (s ∷ ts) ts
without_first s ts o = record {
  one_less = omega arith;
  kept = λ t ne. ⊎_elim (λ e. absurd (ne e)) (λ m. m);
  was = λ t m. (λ e. o.0 (rw e at m), inr m);
  once = o.1;
}

-- a later one
without_later : (s t : ℕ) (ts us : List ℕ) → t ≢ s → Once (t ∷ ts) → Without s ts us → Without s (t ∷ ts) (t ∷ us)
without_later s t ts us ne o W = record {
  one_less = omega (arith, W.one_less);
  kept = λ u n. ⊎_elim inl (λ m. inr (W.kept u n m));
  was = λ u. ⊎_elim (λ (e : u ≡ t). (λ q. ne (sym e ∙ q), inl e)) (λ m. ((W.was u m).0, inr (W.was u m).1));
  once = (λ m. o.0 (W.was t m).1, W.once);
}

-- the states ts without s
record Rest (s : ℕ) (ts : List ℕ) : Type 0 where
  rest : List ℕ
  without : Without s ts rest

-- there are such
rest_of : (s : ℕ) (ts : List ℕ) → Once ts → Rest s ts
rest_of s [] o = record { rest = []; without = record { one_less = omega arith; kept = λ t ne m. m; was = λ t m. absurd m; once = tt } }
rest_of s (t ∷ ts) o = go (ℕ_discrete t s) (rest_of s ts o.1)
  where
    go : Dec (t ≡ s) → Rest s ts → Rest s (t ∷ ts)
    go (yes e) r = record { rest = ts; without = rw (sym e) (without_first t ts o) }
    go (no ne) r = record { rest = t ∷ r.rest; without = without_later s t ts r.rest ne o r.without }

-- of S states no more than S can stand in a chain
pub few : (S : ℕ) (ts : List ℕ) → Once ts → ((t : ℕ) → Among t ts → t < S) → length ts ≤ S
few zero [] o below = omega arith
few zero (t ∷ ts) o below = absurd (not-suc-le-zero (below t (inl refl)))
few (suc S) ts o below =
    let r = rest_of S ts o in
    let W = r.without in
    let k = few S r.rest W.once (λ t m. omega (arith, below t (W.was t m).1, (W.was t m).0)) in
    omega (arith, W.one_less)

-- the chain from h in v goes through ts without s, and s was one of them
record Unlinked (S : ℕ) (v : List ℕ) (h s : ℕ) (ts : List ℕ) : Type 0 where
  rest : List ℕ
  leads : Leads S v h rest
  without : Without s ts rest
  there : Among s ts

-- the first state taken out: the chain goes from the one after it
first_out : (S : ℕ) (w : List ℕ) (h s : ℕ) (ts : List ℕ) → s < S → h ≡ s → Once ts → Leads S w h ts → Unlinked S w (after w s) s ts
first_out S w h s [] l e o c = absurd (omega arith)
first_out S w h s (t ∷ ts) l e o c =
    let q : s ≡ t = sym e ∙ c.0 in
    rw q (record { rest = ts; leads = c.1; without = without_first t ts o; there = inl refl })

module _ (S : ℕ) (w : List ℕ) (p s : ℕ) (room : 4 * p + 3 < length w) (l : s < S) (on : after w p ≡ s) where
  -- another one: the state before it leads to the one after it
  later_out : (h : ℕ) (ts : List ℕ) → Once ts → Leads S w h ts → Among p ts → Unlinked S (set w (4 * p + 3) (after w s)) h s ts
  later_out h [] o c m = absurd m
  later_out h (t ∷ ts) o c m = go (ℕ_discrete t p) (later_out (after w t) ts o.1 c.1)
    where
      v : List ℕ
      v = set w (4 * p + 3) (after w s)

      same : (u : ℕ) → u ≢ p → after v u ≡ after w u
      same u ne = get_or-set_other w (4 * p + 3) (4 * u + 3) (after w s) 0 (omega arith)

      here : t ≡ p → Unlinked S w (after w s) s ts → Unlinked S v h s (t ∷ ts)
      here e U = record {
        rest = t ∷ U.rest;
        leads = (
          c.0,
          rw (e, get_or-set_same w (4 * p + 3) (after w s) 0 room)
              (leads_same S w v (after w s) U.rest (λ u i. same u (λ q. o.0 (rw (q ∙ sym e) at (U.without.was u i).1))) U.leads),
        );
        without = without_later s t ts U.rest (λ q. o.0 (rw (sym q) at U.there)) o U.without;
        there = inr U.there;
      }

      there : t ≢ p → Unlinked S v (after w t) s ts → Unlinked S v h s (t ∷ ts)
      there ne U = record {
        rest = t ∷ U.rest;
        leads = (c.0, rw (same t ne) U.leads);
        without = without_later s t ts U.rest (λ q. o.0 (rw (sym q) at U.there)) o U.without;
        there = inr U.there;
      }

      go : Dec (t ≡ p) → (Among p ts → Unlinked S v (after w t) s ts) → Unlinked S v h s (t ∷ ts)
      go (yes e) f = here e (first_out S w (after w t) s ts l (rw e on) o.1 c.1)
      go (no ne) f = there ne (f (⊎_elim (λ e. absurd (ne (sym e))) (λ i. i) m))

-- a state that waits no more, taken out
chained_less : (S : ℕ) (w v : List ℕ) (h₀ h s : ℕ) → ((t : ℕ) → t ≢ s → get_or v (4 * t) 0 ≡ get_or w (4 * t) 0) → (WaitsAt v s → ⊥)
    → (C : Chained S w h₀) → Unlinked S v h s C.chain → Chained S v h
chained_less S w v h₀ h s kinds not C U = record {
  chain = U.rest;
  leads = U.leads;
  once = U.without.once;
  inside = λ t m. C.inside t (U.without.was t m).1;
  waits = λ t m. kinds t (U.without.was t m).0 ∙ C.waits t (U.without.was t m).1;
  all = λ t l q. let ne : t ≢ s = λ e. not (rw e at q) in U.without.kept t ne (C.all t l (sym (kinds t ne) ∙ q));
}

module _ (S : ℕ) (w : List ℕ) (h s : ℕ) (l : s < S) (room : 4 * S ≤ length w) (C : Chained S w h) where
  -- the work area with state s settled
  abbrev v : List ℕ
  v = set w (4 * s) 2

  -- the chain is as it was
  on : Leads S v h C.chain
  on = leads_same S w v h C.chain (λ t m. get_or-set_other w (4 * s) (4 * t + 3) 2 0 (omega arith)) C.leads

  -- the other kinds too
  kinds : (t : ℕ) → t ≢ s → get_or v (4 * t) 0 ≡ get_or w (4 * t) 0
  kinds t ne = get_or-set_other w (4 * s) (4 * t) 2 0 (omega arith)

  -- state s waits no more
  settled : WaitsAt v s → ⊥
  settled q = omega (arith, get_or-set_same w (4 * s) 2 0 (omega arith))

  -- the first state, settled, is out of the chain from the one after it
  pub chained_first_out : (b : ℕ) → S ≤ b → Precedes S w h b s → Chained S (set w (4 * s) 2) (after (set w (4 * s) 2) s)
  chained_first_out b g p =
      let e : h ≡ s = ⊎_elim (λ q. q.1) (λ q. absurd (omega (arith, q.0))) p in
      chained_less S w v h (after v s) s kinds settled C (first_out S v h s C.chain l e C.once on)

  -- another one, where the state before it leads to the one after it
  pub chained_later_out : (b : ℕ) → b < S → Precedes S w h b s
      → Chained S (set (set w (4 * s) 2) (4 * b + 3) (after (set w (4 * s) 2) s)) h
  chained_later_out b lb p =
      let q : WaitsAt w b × (after w b ≡ s) = ⊎_elim (λ q. absurd (omega (arith, q.0))) (λ q. (q.1, q.2)) p in
      chained_less S w (set v (4 * b + 3) (after v s)) h h s
      (λ t ne. get_or-set_other v (4 * b + 3) (4 * t) (after v s) 0 (omega arith) ∙ kinds t ne)
      (λ q. settled (sym (get_or-set_other v (4 * b + 3) (4 * s) (after v s) 0 (omega arith)) ∙ q))
      C
      (later_out S v b s (omega (arith, length-set w (4 * s) 2)) l
      (get_or-set_other w (4 * s) (4 * b + 3) 2 0 (omega arith) ∙ q.1)
      h C.chain C.once on (C.all b lb q.0))

-- both
pub ruleset out_cases = (chained_first_out, chained_later_out)
