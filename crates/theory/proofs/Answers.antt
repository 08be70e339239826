-- How the rule ends, proved, and what its answers say of the web's states: an upper end is reached, nothing is reached below the window
-- (where arcs are FIFO), the units are fewer than the states, and the trail of a closed answer is what was driven.
use Prim.Native.Nat.{ℕ, zero, suc, ◌+◌, ◌≤◌, ◌<◌}
use Rattle.std.proofs.Math.Nat.{zero-add}
use native.Mathlib.Omega.{arith}
use Rattle.std.specs.Prelude.{List, [], ◌≡◌, refl}
use Rattle.theory.specs.Settling.{Table, first, settle, Answer, no_way, closed, open_from, upper_end, View, nothing_waits, destination, next, look, tests, run, search_from}
use Rattle.theory.specs.Windows.{NotBelow, Tops, used, Finished}
use Rattle.theory.specs.Labels.{Waits, waits_has}
use Rattle.theory.specs.Looks.{LeastBelow, Next, Sees}
use Rattle.theory.proofs.Looks.{look_right}
use Rattle.theory.specs.Reach.{FifoArcs, Reach, edges_along, Question, answer_to}
use Rattle.theory.specs.Trail.{trail_reach, trail_is}
use Rattle.theory.specs.Units.{count_gap}
use Rattle.theory.specs.Invariant.{Met, is_settled, still_waits, Inv, has_reach, waits_inside, first_keeps, reach_met}
use Rattle.theory.proofs.Invariant.{unit_keeps}
use Rattle.theory.specs.Answers.{Ends, by_arrival, by_budget, by_nothing, upper_waits}

module _ (Q : Question) where
  open Q use {web as W, lawful, from as s₀, departure as x₀, to as d, to_in}

  -- what each unit keeps holds where the rule ends
  module _ (I : ℕ → Table → Type 0) (keeps : (u : ℕ) (L : Table) (s a : ℕ) → I u L → Next W d L s a → I (suc u) (settle W s a L)) where
    -- the tests end it, or it goes on
    tests_end : (limit u : ℕ) (L : Table) → I u L → u ≤ limit → (v : View) → Sees W d L v → (g : ℕ → ℕ → Answer)
        → ((s a : ℕ) → Next W d L s a → Ends Q I limit (g s a)) → Ends Q I limit (tests W s₀ d u L v g)
    tests_end limit u L i h nothing_waits sees g f = by_nothing u L i h sees
    tests_end limit u L i h (destination a) sees g f = by_arrival u L a i h sees
    tests_end limit u L i h (next s a) sees g f = f s a sees

    -- it ends when the budget is spent, if not before
    pub run_ends : (b u : ℕ) (L : Table) → I u L → Ends Q I (u + b) (run W s₀ d b u L)
    unfolding run
    run_ends zero u L i = tests_end (u + 0) u L i (omega arith) (look W d L) (look_right W d L to_in)
        (λ s a. open_from a (upper_end (L d)) u) (λ s a N. by_budget u L s a i (omega arith) N)
    run_ends (suc b) u L i =
        let e : u + suc b ≡ suc u + b = omega arith in
        rw e (tests_end (suc u + b) u L i (omega arith) (look W d L) (look_right W d L to_in)
        (λ s a. run W s₀ d b (suc u) (settle W s a L)) (λ s a N. run_ends b (suc u) (settle W s a L) (keeps u L s a i N)))

  -- the rule from the start ends where the invariant holds, within its budget
  search_ends : (b : ℕ) → Ends Q (Inv Q) b (answer_to Q b)
  unfolding search_from
  search_ends b = rw zero-add at (run_ends (Inv Q) (λ u L s a I N. unit_keeps Q I N) b 0 (first s₀ x₀) (first_keeps Q))

  -- the upper end of the window is reached
  pub tops_reach : (b y : ℕ) → Tops (answer_to Q b) y → Reach W s₀ x₀ d y
  tops_reach b y = go (search_ends b)
    where
      go : {r : Answer} → Ends Q (Inv Q) b r → Tops r y → Reach W s₀ x₀ d y
      go (by_nothing u L I h sees) top = absurd top
      go (by_arrival u L a I h sees) top = rw (← top) (has_reach Q I d a (waits_has (L d) a sees.0))
      go (by_budget u L s a I h N) top = has_reach Q I d y (waits_has (L d) y (upper_waits (L d) y top))

  -- nothing is reached below the window, where arcs are FIFO: what is met on the way to the destination waits
  pub reach_not_below : FifoArcs W → (b y : ℕ) → Reach W s₀ x₀ d y → NotBelow (answer_to Q b) y
  reach_not_below fifo b y r = go (search_ends b)
    where
      waits_by : {u : ℕ} {L : Table} → Inv Q u L → Met L d y → (t : ℕ) × (c : ℕ) × (t < W.states) × Waits (L t) c × (c ≤ y)
      waits_by I (is_settled c h g) = absurd (I.away c h)
      waits_by I (still_waits t c w g) = (t, c, waits_inside Q I t c w, w, g)

      least : {u : ℕ} {L : Table} {a : ℕ} → Inv Q u L → LeastBelow L W.states a → a ≤ y
      least I f = let m = waits_by I (reach_met Q fifo I r) in omega (arith, f m.0 m.1 m.2 m.3, m.4)

      go : {q : Answer} → Ends Q (Inv Q) b q → NotBelow q y
      go (by_nothing u L I h sees) = let m = waits_by I (reach_met Q fifo I r) in sees m.0 m.1 m.2 m.3
      go (by_arrival u L a I h sees) = least I sees.1
      go (by_budget u L s a I h N) = least I N.least_of

  -- the settled states are fewer than the states, for the destination is not among them
  fewer : {u : ℕ} {L : Table} → Inv Q u L → u < W.states
  fewer {u} {L} I = omega (arith, count_gap W.states d L to_in I.away, I.counted)

  -- the units of an answer are within the budget and fewer than the states
  pub search_units : (b : ℕ) → (used (answer_to Q b) ≤ b) × (used (answer_to Q b) < W.states)
  search_units b = go (search_ends b)
    where
      go : {r : Answer} → Ends Q (Inv Q) b r → (used r ≤ b) × (used r < W.states)
      go (by_nothing u L I h sees) = (h, fewer I)
      go (by_arrival u L a I h sees) = (h, fewer I)
      go (by_budget u L s a I h N) = (omega arith, fewer I)

  -- an answer that is not finished has used the whole budget
  pub open_spent : (b : ℕ) → (Finished (answer_to Q b) → ⊥) → used (answer_to Q b) ≡ b
  open_spent b = go (search_ends b)
    where
      go : {r : Answer} → Ends Q (Inv Q) b r → (Finished r → ⊥) → used r ≡ b
      go (by_nothing u L I h sees) f = absurd (f tt)
      go (by_arrival u L a I h sees) f = absurd (f tt)
      go (by_budget u L s a I h N) f = h

  -- as many units as states, but one, always finish
  pub search_finishes : (b : ℕ) → W.states ≤ b + 1 → Finished (answer_to Q b)
  search_finishes b enough = go (search_ends b)
    where
      go : {r : Answer} → Ends Q (Inv Q) b r → Finished r
      go (by_nothing u L I h sees) = tt
      go (by_arrival u L a I h sees) = tt
      go (by_budget u L s a I h N) = absurd (omega (arith, fewer (unit_keeps Q I N)))

  -- the trail of a closed answer is the edges of a way to the destination with its arrival
  pub closed_trail : (b a n : ℕ) (es : List ℕ) → answer_to Q b ≡ closed a n es → (r : Reach W s₀ x₀ d a) × (es ≡ edges_along r [])
  closed_trail b a n es e = rw e at (go (search_ends b))
    where
      Driven : Answer → Type 0
      Driven (no_way n) = Unit {0}
      Driven (closed a n es) = (r : Reach W s₀ x₀ d a) × (es ≡ edges_along r [])
      Driven (open_from l h n) = Unit {0}

      go : {r : Answer} → Ends Q (Inv Q) b r → Driven r
      go (by_nothing u L I h sees) = tt
      go (by_arrival u L a I h sees) =
          let t = I.trails d a (waits_has (L d) a sees.0) in (trail_reach t.1, trail_is lawful u t.1 refl t.2 [])
      go (by_budget u L s a I h N) = tt
