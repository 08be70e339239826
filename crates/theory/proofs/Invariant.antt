-- Each unit keeps the invariant.
use Rattle.std.specs.Prelude.{ℕ, suc, ◌≤◌, ◌<◌, ◌≢◌, ◌≡◌, refl, T}
use Rattle.std.proofs.Common.{arith, sym, ap, ◌∙◌}
use Rattle.theory.specs.Settling.{Label, waiting, Table, arc_of, settle}
use Rattle.theory.specs.Labels.{Waits, Settled, Has, Within, waits_has}
use Rattle.theory.specs.OneUnit.{Offers, Step, kept, settles, reached, hastened}
use Rattle.theory.proofs.OneUnit.{settle_step, settle_within}
use Rattle.theory.specs.Looks.{Next}
use Rattle.theory.specs.Reach.{Question, reach_late}
use Rattle.theory.specs.Trail.{Trail, onward, trail_reach, trail_keeps}
use Rattle.theory.proofs.Units.{unit_counts}
use Rattle.theory.specs.Invariant.{Inv, Trailed, waits_inside}

module _ (Q : Question) where
  open Q use {web as W, lawful, from as s₀, departure as x₀, to as d}

  -- One unit, which settles state s at a

  module _ {u : ℕ} {L : Table} (I : Inv Q u L) {s a : ℕ} (N : Next W d L s a) where
    -- the table after the unit
    abbrev after : Table
    after = settle W s a L

    -- and its labels, beside those before
    step : (t : ℕ) → Step W s a t (L t) (after t)
    step = settle_step W s a L N.waits

    -- a settled label stays
    settled_stays : (t c : ℕ) → Settled (L t) c → after t ≡ L t
    settled_stays t c = go (step t)
      where
        go : {l m : Label} → Step W s a t l m → Settled l c → m ≡ l
        go (kept ne) h = refl
        go (settles e) h = absurd h
        go (reached ne o) h = absurd h
        go (hastened ne o g) h = absurd h

    -- state s is settled, by the arc by which it waited
    settled_now : Settled (after s) a × (arc_of (after s) ≡ arc_of (L s))
    settled_now = go (step s)
      where
        go : {l m : Label} → Step W s a s l m → Settled m a × (arc_of m ≡ arc_of l)
        go (kept ne) = absurd (ne refl)
        go (settles e) = (refl, refl)
        go (reached ne o) = absurd (ne refl)
        go (hastened ne o g) = absurd (ne refl)

    -- it has a trail
    mine : Trailed Q L u s (L s) a
    mine = I.trails s a (waits_has (L s) a N.waits)

    -- so it is no earlier than the departure
    late : x₀ ≤ a
    late = reach_late Q (trail_reach mine.1)

    -- what it offers has a trail through it
    offered_trail : (t b k : ℕ) → t ≢ s₀ → Offers W s a t b k → Trailed Q after (suc u) t (waiting b k) b
    offered_trail t b k ne o =
        let q : Trail W s₀ x₀ after s a (arc_of (after s)) mine.0 = rw settled_now.1 (trail_keeps settled_stays mine.1) in
        let r : Trail W s₀ x₀ after (W.to s k) (W.arr k a) k (suc mine.0) =
        onward k settled_now.0 o.is_arc o.leaves (λ e. ne (o.leads ∙ e)) q in
        (suc mine.0, rw (o.leads, ← o.arrives) r, omega (arith, mine.2))

    -- every label has a trail; none is offered to the start, which has the departure
    unit_trails : (t b : ℕ) → Has (after t) b → Trailed Q after (suc u) t (after t) b
    unit_trails t b = go (step t) (I.trails t b) (λ e. rw (ap L e) I.rooted)
      where
        go : {l m : Label} → Step W s a t l m → (Has l b → Trailed Q L u t l b) → (t ≡ s₀ → Has l x₀) → Has m b → Trailed Q after (suc u) t m b
        go (kept ne) old root h = let r = old h in (r.0, trail_keeps settled_stays r.1, omega (arith, r.2))
        go (settles e) old root h = let r = old h in (r.0, trail_keeps settled_stays r.1, omega (arith, r.2))
        go (reached {b = c} {k = k} ne o) old root h = rw (← h) (offered_trail t c k root o)
        go (hastened {b = c} {k = k} ne o g) old root h =
            rw (← h) (offered_trail t c k (λ e. omega (arith, root e, late, lawful.later k a o.is_arc, o.arrives)) o)

    -- the start keeps the departure
    unit_rooted : Has (after s₀) x₀
    unit_rooted = go (step s₀) I.rooted
      where
        go : {l m : Label} → Step W s a s₀ l m → Has l x₀ → Has m x₀
        go (kept ne) h = h
        go (settles e) h = h
        go (reached ne o) h = absurd h
        go (hastened {k = k} ne o g) h = absurd (omega (arith, late, lawful.later k a o.is_arc, o.arrives))

    -- nothing is settled with more than a
    settled_before : (t c : ℕ) → Settled (after t) c → c ≤ a
    settled_before t c = go (step t) (λ h. I.order t s c a h N.waits)
      where
        go : {l m : Label} → Step W s a t l m → (Settled l c → c ≤ a) → Settled m c → c ≤ a
        go (kept ne) old h = old h
        go (settles e) old h = omega arith
        go (reached ne o) old h = absurd h
        go (hastened ne o g) old h = absurd h

    -- nothing waits with less than a
    pub waits_after : (t b : ℕ) → Waits (after t) b → a ≤ b
    waits_after t b = go (step t) (λ w. N.least_of t b (waits_inside Q I t b w) w)
      where
        go : {l m : Label} → Step W s a t l m → (Waits l b → a ≤ b) → Waits m b → a ≤ b
        go (kept ne) old h = old h
        go (settles e) old h = absurd h
        go (reached {k = k} ne o) old h = omega (arith, lawful.later k a o.is_arc, o.arrives)
        go (hastened {k = k} ne o g) old h = omega (arith, lawful.later k a o.is_arc, o.arrives)

    -- an arrival that was there by c still is
    still_within : (t c : ℕ) → Within (L t) c → Within (after t) c
    still_within t c = go (step t)
      where
        go : {l m : Label} → Step W s a t l m → Within l c → Within m c
        go (kept ne) h = h
        go (settles e) h = h
        go (reached ne o) h = absurd h
        go (hastened ne o g) h = omega arith

    -- what a settled state offers is taken up
    unit_cover : (t k c : ℕ) → k < W.arcs → T (W.leaves t k) → Settled (after t) c → Within (after (W.to t k)) (W.arr k c)
    unit_cover t k c kc lv = go (step t) (λ h. still_within (W.to t k) (W.arr k c) (I.cover t k c kc lv h))
      where
        own : T (W.leaves s k) → Within (after (W.to s k)) (W.arr k a)
        own = settle_within W s a L N.waits (λ k kc. lawful.later k a kc) (λ t c h. I.order t s c a h N.waits) k kc

        go : {l m : Label} → Step W s a t l m → (Settled l c → Within (after (W.to t k)) (W.arr k c)) → Settled m c
            → Within (after (W.to t k)) (W.arr k c)
        go (kept ne) old h = old h
        go (settles e) old h = rw (e, ← h) (own (rw e at lv))
        go (reached ne o) old h = absurd h
        go (hastened ne o g) old h = absurd h

    -- the destination is not settled: it waits with more than a, if at all
    unit_away : (b : ℕ) → Settled (after d) b → ⊥
    unit_away b = go (step d) (I.away b) N.not_yet
      where
        go : {l m : Label} → Step W s a d l m → (Settled l b → ⊥) → ((c : ℕ) → Waits l c → a < c) → Settled m b → ⊥
        go (kept ne) old yet h = old h
        go (settles e) old yet h = omega (arith, yet a refl)
        go (reached ne o) old yet h = h
        go (hastened ne o g) old yet h = h

    -- a unit keeps the invariant
    pub unit_keeps : Inv Q (suc u) after
    unit_keeps = record {
      trails = unit_trails;
      rooted = unit_rooted;
      order = λ r t c b h w. omega (arith, settled_before r c h, waits_after t b w);
      cover = unit_cover;
      away = unit_away;
      counted = sym (unit_counts W W.states s a L N.inside N.waits) ∙ ap suc I.counted;
    }
