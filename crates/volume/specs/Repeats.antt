-- The first edge whose two ends an earlier edge has: opening looks for it in one walk over the edges of each junction, with a stamp
-- on every junction that was reached.
use Rattle.std.specs.Prelude.{ℕ, ◌+◌, ◌≤◌, ◌<◌, ◌≡◌, refl, ◌≢◌, Bool, true, false, List, eqb, ltb, length, set, replicate}
use Rattle.std.proofs.Math.Path.{sym}
use Rattle.std.proofs.Common.{◌∙◌, ap, arith, length-set, eqb-true, lt-ltb, le-ltb}
use Rattle.std.proofs.Math.Decide.{ℕ_discrete, dec_lt}
use Rattle.std.proofs.Math.ListN.{get_or, get_or-eq_default}
use Rattle.std.proofs.lemmas.List.{length-replicate, get_or-replicate}
use Rattle.std.proofs.Math.Seq.{get_or-set_same, get_or-set_other}
use Rattle.std.proofs.lemmas.Bool.{eqb-false}
use Rattle.block.specs.Choose.{choose, choose_yes, choose_no, both, both_yes, both_right}
use Rattle.records.specs.Format.{Volume}
use Rattle.rules.specs.Rules.{new_ends}
use Rattle.rules.specs.EdgeSteps.{new_found, new_none, Fresh}
use Rattle.records.specs.Index.{next_from, next_low, next_high, next_begins, next_skips}

-- an earlier edge has the two ends of edge e
pub record Repeats (vol : Volume) (e : ℕ) : Type 0 where
  pub earlier : ℕ
  pub before : earlier < e
  pub from : vol.edge_from earlier ≡ vol.edge_from e
  pub to : vol.edge_to earlier ≡ vol.edge_to e

-- r is the first edge, of those that begin below u and end below N, that repeats an earlier one's ends, or E
pub record LeastBelow (vol : Volume) (u r : ℕ) : Type 0 where
  pub inside : r ≤ vol.edges
  pub found : r < vol.edges → Repeats vol r
  pub none : (e : ℕ) → e < r → vol.edge_from e < u → vol.edge_to e < vol.junctions → Repeats vol e → ⊥

-- the same of all edges with both ends below N
abbrev pub FirstRepeat : Volume → ℕ → Type 0
FirstRepeat vol r = LeastBelow vol vol.junctions r

-- no stamp is above u: no junction bears the stamp u + 1 of junction u yet
pub record Stamped (n u : ℕ) (stamps : List ℕ) : Type 0 where
  pub room : n ≤ length stamps
  pub low : (w : ℕ) → get_or stamps w 0 ≤ u

-- junction w, below n, bears the stamp
unfoldable pub bears : List ℕ → ℕ → ℕ → ℕ → Bool
bears stamps n w stamp = both (ltb w n) (eqb (get_or stamps w 0) stamp)

-- the stamps with one more on junction w, if it lies below n
unfoldable pub stamped_on : List ℕ → ℕ → ℕ → ℕ → List ℕ
stamped_on stamps n w stamp = choose (ltb w n) (set stamps w stamp) stamps

-- before any junction
pub least_none : (vol : Volume) (r : ℕ) → r ≡ vol.edges → LeastBelow vol 0 r
least_none vol r e = record {
  inside = omega arith;
  found = λ h. absurd (omega arith);
  none = λ e h b. absurd (omega arith);
}

-- the walk over the edges of u has come to edge d: the stamp stands where an edge from u before d leads, and nowhere else, and none
-- of those repeats another
pub record Walked (vol : Volume) (n u d : ℕ) (stamps : List ℕ) : Type 0 where
  pub inside : d ≤ vol.edges
  pub begins_there : d < vol.edges → vol.edge_from d ≡ u
  pub room : n ≤ length stamps
  pub low : (w : ℕ) → get_or stamps w 0 ≤ u + 1
  pub stamped : (j : ℕ) → j < d → vol.edge_from j ≡ u → vol.edge_to j < n → get_or stamps (vol.edge_to j) 0 ≡ u + 1
  pub reached : (w : ℕ) → get_or stamps w 0 ≡ u + 1 → (j : ℕ) × (j < d) × (vol.edge_from j ≡ u) × (vol.edge_to j ≡ w)
  pub none : (j : ℕ) → j < d → vol.edge_from j ≡ u → vol.edge_to j < n → Repeats vol j → ⊥

module _ (vol : Volume) (n u : ℕ) where
  -- the walk begins
  pub walk_first : (d : ℕ) (stamps : List ℕ) → d ≡ next_from vol u 0 → Stamped n u stamps → Walked vol n u d stamps
  walk_first d stamps e s = rw e (record {
    inside = next_high vol u 0 (omega arith);
    begins_there = next_begins vol u 0 (omega arith);
    room = s.room;
    low = λ w. omega (arith, s.low w);
    stamped = λ j h f. absurd (next_skips vol u 0 j (omega arith) (omega arith) h f);
    reached = λ w h. absurd (omega (arith, s.low w));
    none = λ j h f. absurd (next_skips vol u 0 j (omega arith) (omega arith) h f);
  })

  module _ (d : ℕ) (stamps : List ℕ) (W : Walked vol n u d stamps) (lt : d < vol.edges) where
    -- edge d leads to a junction that bears the stamp
    pub walk_meets : (w : ℕ) → w ≡ vol.edge_to d → bears stamps n w (u + 1) ≡ true → Repeats vol d
    unfolding bears
    walk_meets w is h =
        let r = W.reached w (eqb-true (get_or stamps w 0) (u + 1) (both_right (ltb w n) (eqb (get_or stamps w 0) (u + 1)) h)) in
        record { earlier = r.0; before = r.1; from = r.2 ∙ sym (W.begins_there lt); to = r.3 ∙ is }

    -- it does not: no edge before d repeats it
    fresh : (w : ℕ) → w ≡ vol.edge_to d → w < n → get_or stamps w 0 ≢ u + 1 → Repeats vol d → ⊥
    fresh w is h ne p =
        ne
        (ap (λ (i : ℕ). get_or stamps i 0) (is ∙ sym p.to)
        ∙ W.stamped p.earlier p.before (p.from ∙ W.begins_there lt) (let t = p.to in omega arith))

    -- an edge of u before the next one is before d, or d
    before_next : {X : Type 0} (m j : ℕ) → m ≡ next_from vol u (d + 1) → j < m → vol.edge_from j ≡ u → (j < d → X) → (j ≡ d → X) → X
    before_next {X} m j e h f old same = go (dec_lt j d) (ℕ_discrete j d)
      where
        go : Dec (j < d) → Dec (j ≡ d) → X
        go (yes a) q = old a
        go (no a) (yes q) = same q
        go (no a) (no q) = absurd (next_skips vol u (d + 1) j (omega arith) (omega arith) (rw (← e) h) f)

    -- the walk goes on past an edge that ends below N, with its end stamped
    walk_stamps : (w m : ℕ) → w ≡ vol.edge_to d → w < n → get_or stamps w 0 ≢ u + 1 → m ≡ next_from vol u (d + 1)
        → Walked vol n u m (set stamps w (u + 1))
    walk_stamps w m is h ne e = record {
      inside = rw e (next_high vol u (d + 1) (omega arith));
      begins_there = rw e (next_begins vol u (d + 1) (omega arith));
      room = rw length-set W.room;
      low = λ x. low_at x (ℕ_discrete x w);
      stamped = λ j l f b. before_next m j e l f (λ o. old j o f b (ℕ_discrete (vol.edge_to j) w)) (λ q. new j q);
      reached = λ x g. reached_at x g (ℕ_discrete x w);
      none = λ j l f b p. before_next m j e l f (λ o. W.none j o f b p) (λ q. fresh w is h ne (rw q at p));
    }
      where
        at_w : get_or (set stamps w (u + 1)) w 0 ≡ u + 1
        at_w = get_or-set_same stamps w (u + 1) 0 (omega (arith, W.room))

        low_at : (x : ℕ) → Dec (x ≡ w) → get_or (set stamps w (u + 1)) x 0 ≤ u + 1
        low_at x (yes q) = rw q (omega (arith, at_w))
        low_at x (no q) = omega (arith, get_or-set_other stamps w x (u + 1) 0 q, W.low x)

        old : (j : ℕ) → j < d → vol.edge_from j ≡ u → vol.edge_to j < n → Dec (vol.edge_to j ≡ w) → get_or (set stamps w (u + 1)) (vol.edge_to j) 0 ≡ u + 1
        old j o f b (yes q) = rw q at_w
        old j o f b (no q) = get_or-set_other stamps w (vol.edge_to j) (u + 1) 0 q ∙ W.stamped j o f b

        new : (j : ℕ) → j ≡ d → get_or (set stamps w (u + 1)) (vol.edge_to j) 0 ≡ u + 1
        new j q = ap (λ (i : ℕ). get_or (set stamps w (u + 1)) i 0) (ap vol.edge_to q ∙ sym is) ∙ at_w

        further : d + 1 ≤ m
        further = rw e (next_low vol u (d + 1) (omega arith))

        reached_at : (x : ℕ) → get_or (set stamps w (u + 1)) x 0 ≡ u + 1 → Dec (x ≡ w)
            → (j : ℕ) × (j < m) × (vol.edge_from j ≡ u) × (vol.edge_to j ≡ x)
        reached_at x g (yes q) = (d, omega (arith, further), W.begins_there lt, sym is ∙ sym q)
        reached_at x g (no q) =
            let r = W.reached x (sym (get_or-set_other stamps w x (u + 1) 0 q) ∙ g) in
            (r.0, omega (arith, r.1, further), r.2, r.3)

    -- the walk goes on past an edge that does not end below N
    walk_passes : (w m : ℕ) → w ≡ vol.edge_to d → n ≤ w → m ≡ next_from vol u (d + 1) → Walked vol n u m stamps
    walk_passes w m is h e = record {
      inside = rw e (next_high vol u (d + 1) (omega arith));
      begins_there = rw e (next_begins vol u (d + 1) (omega arith));
      room = W.room;
      low = W.low;
      stamped = λ j l f b. before_next m j e l f (λ o. W.stamped j o f b) (λ q. absurd (let z = ap vol.edge_to q in omega arith));
      reached = λ x g. let r = W.reached x g in (r.0, omega (arith, r.1, further), r.2, r.3);
      none = λ j l f b p. before_next m j e l f (λ o. W.none j o f b p) (λ q. absurd (let z = ap vol.edge_to q in omega arith));
    }
      where
        further : d + 1 ≤ m
        further = rw e (next_low vol u (d + 1) (omega arith))

    -- the walk goes on past an edge whose end did not bear the stamp
    pub walk_goes : (w m : ℕ) (after : List ℕ) → w ≡ vol.edge_to d → bears stamps n w (u + 1) ≡ false → after ≡ stamped_on stamps n w (u + 1)
        → m ≡ next_from vol u (d + 1) → Walked vol n u m after
    unfolding bears stamped_on
    walk_goes w m after is h now e = go (dec_lt w n)
      where
        go : Dec (w < n) → Walked vol n u m after
        go (yes l) =
            rw (now, choose_yes (set stamps w (u + 1)) stamps (lt-ltb w n l))
            (walk_stamps w m is l (eqb-false (get_or stamps w 0) (u + 1) (sym (both_yes (eqb (get_or stamps w 0) (u + 1)) (lt-ltb w n l)) ∙ h)) e)
        go (no g) = rw (now, choose_no (set stamps w (u + 1)) stamps (le-ltb w n (omega arith))) (walk_passes w m is (omega arith) e)

-- the walk over the edges of u ends: at an edge that repeats, or past the least one of the junctions below u

module _ (vol : Volume) (n u least d : ℕ) (stamps : List ℕ) (all : vol.junctions ≤ n) (L : LeastBelow vol u least) (W : Walked vol n u d stamps) where
  earlier_none : (e : ℕ) → e < d → e < least → vol.edge_from e < u + 1 → vol.edge_to e < vol.junctions → Repeats vol e → ⊥
  earlier_none e h l f t p = go (ℕ_discrete (vol.edge_from e) u)
    where
      go : Dec (vol.edge_from e ≡ u) → ⊥
      go (yes q) = W.none e h q (omega arith) p
      go (no q) = L.none e l (omega arith) t p

  pub walk_finds : d < least → Repeats vol d → LeastBelow vol (u + 1) d
  walk_finds h p = record {
    inside = W.inside;
    found = λ _. p;
    none = λ e l f t q. earlier_none e l (omega arith) f t q;
  }

  pub walk_ends : least ≤ d → LeastBelow vol (u + 1) least
  walk_ends h = record {
    inside = L.inside;
    found = L.found;
    none = λ e l f t q. earlier_none e (omega arith) l f t q;
  }

  pub stamps_after : Stamped n (u + 1) stamps
  stamps_after = record { room = W.room; low = W.low }

  -- and so they are where the walk stops with one stamp more
  pub stamps_found : (w : ℕ) (after : List ℕ) → after ≡ stamped_on stamps n w (u + 1) → Stamped n (u + 1) after
  unfolding stamped_on
  stamps_found w after e = go (dec_lt w n)
    where
      low_at : (x : ℕ) → w < n → Dec (x ≡ w) → get_or (set stamps w (u + 1)) x 0 ≤ u + 1
      low_at x l (yes q) = rw q (omega (arith, get_or-set_same stamps w (u + 1) 0 (omega (arith, W.room))))
      low_at x l (no q) = omega (arith, get_or-set_other stamps w x (u + 1) 0 q, W.low x)

      go : Dec (w < n) → Stamped n (u + 1) after
      go (yes l) =
          rw (e, choose_yes (set stamps w (u + 1)) stamps (lt-ltb w n l))
          (record { room = rw length-set W.room; low = λ x. low_at x l (ℕ_discrete x w) })
      go (no g) = rw (e, choose_no (set stamps w (u + 1)) stamps (le-ltb w n (omega arith))) stamps_after

-- no stamp before the first junction
pub stamped_none : (n m : ℕ) → n ≤ m → Stamped n 0 (replicate m 0)
stamped_none n m h = record { room = rw length-replicate h; low = λ w. go w (dec_lt w m) }
  where
    go : (w : ℕ) → Dec (w < m) → get_or (replicate m 0) w 0 ≤ 0
    go w (yes l) = omega (arith, get_or-replicate {A = ℕ} m w 0 0 l)
    go w (no g) = omega (arith, get_or-eq_default {A = ℕ} (replicate m 0) 0 {n = w} (rw length-replicate (omega arith)))

-- what the first repeat says of the rule

pub before_repeat : (vol : Volume) (r e : ℕ) → FirstRepeat vol r → e < r → Fresh vol e
before_repeat vol r e L h f t =
    new_none vol e (vol.edge_from e) (vol.edge_to e) refl refl
    (λ d l a b. L.none e h f t (record { earlier = d; before = l; from = a; to = b }))

pub at_repeat : (vol : Volume) (e : ℕ) → Repeats vol e → new_ends vol e ≡ false
at_repeat vol e p =
    new_found vol e p.earlier (vol.edge_from e) (vol.edge_to e) refl refl p.before p.from p.to
