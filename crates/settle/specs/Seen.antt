-- The tests before a unit, as the code makes them over the work area: what is seen with the pick that Scan finds, and the upper end. Each
-- answer of the code is told in the theory's words.
use Rattle.std.specs.Prelude.{ℕ, zero, suc, ◌+◌, ◌*◌, ◌<◌, List, ◌≢◌, ◌≡◌, refl, get_or}
use Rattle.std.proofs.Common.{sym, ◌∙◌, ap, eq-eqb, ne_eqb}
use Rattle.theory.specs.Settling.{Label, Pick as Picking, nobody, picked, none, at_most, upper_end, View as Viewing, nothing_waits, destination, next, view_from}
use Rattle.settle.specs.Work.{label_of, labels, labels_in}
use Rattle.settle.specs.Chain.{Precedes}
use Rattle.settle.specs.declared.seen.Waiting.{Waiting}
use Rattle.settle.specs.declared.seen.View.{View}
use Rattle.settle.specs.declared.seen.View.TheVariants.{NothingWaits, Destination, Next}

-- a view, in the theory's words
abbrev pub view_of : View → Viewing
view_of NothingWaits = nothing_waits
view_of (Destination a) = destination a
view_of (Next p) = next p.state p.arrival

-- the state to settle comes in the chain from h after the one that the view names
abbrev pub ViewLinked : ℕ → List ℕ → ℕ → View → Type 0
ViewLinked S w h NothingWaits = Unit {0}
ViewLinked S w h (Destination a) = Unit {0}
ViewLinked S w h (Next p) = Precedes S w h p.before p.state

-- so the state that a view names is linked there
pub view_linked : (S : ℕ) (w : List ℕ) (h : ℕ) (p : Waiting) (v : View) → v ≡ Next p → ViewLinked S w h v → Precedes S w h p.before p.state
view_linked S w h p v e l = rw e at l

-- What is seen, where d is the destination's state

module _ (S : ℕ) (w : List ℕ) (d : ℕ) (h : d < S) where
  -- the view, by the destination's kind
  view_at : (kind s a : ℕ) → get_or w (4 * d) 0 ≡ kind
      → view_from (labels S w d) (picked s a) ≡ view_from (label_of kind (get_or w (4 * d + 1) 0) (get_or w (4 * d + 2) 0)) (picked s a)
  view_at kind s a e =
      ap (λ (l : Label). view_from l (picked s a))
      (labels_in S w d h ∙ ap (λ (n : ℕ). label_of n (get_or w (4 * d + 1) 0) (get_or w (4 * d + 2) 0)) e)

  module _ (p : Picking) where
    -- nothing waits
    pub see_nothing : nobody ≡ p → nothing_waits ≡ view_from (labels S w d) p
    see_nothing e = ap (view_from (labels S w d)) e

    module _ (s a : ℕ) (e : picked s a ≡ p) where
      -- the destination waits with the least arrival
      pub see_destination : get_or w (4 * d) 0 ≡ 1 → get_or w (4 * d + 1) 0 ≡ a → destination a ≡ view_from (labels S w d) p
      see_destination k q =
          sym (view_at 1 s a k ∙ rw (eq-eqb (get_or w (4 * d + 1) 0) a q)) ∙ ap (view_from (labels S w d)) e

      -- it waits with a later one
      pub see_later : get_or w (4 * d) 0 ≡ 1 → get_or w (4 * d + 1) 0 ≢ a → next s a ≡ view_from (labels S w d) p
      see_later k q =
          sym (view_at 1 s a k ∙ rw (ne_eqb (get_or w (4 * d + 1) 0) a q)) ∙ ap (view_from (labels S w d)) e

      -- it does not wait
      pub see_next : get_or w (4 * d) 0 ≢ 1 → next s a ≡ view_from (labels S w d) p
      see_next n = sym (view_at (get_or w (4 * d) 0) s a refl ∙ go (get_or w (4 * d) 0) n) ∙ ap (view_from (labels S w d)) e
        where
          go : (kind : ℕ) → kind ≢ 1 → view_from (label_of kind (get_or w (4 * d + 1) 0) (get_or w (4 * d + 2) 0)) (picked s a) ≡ next s a
          go zero n = refl
          go (suc zero) n = absurd (n refl)
          go (suc (suc m)) n = refl

-- what is seen where something waits
pub ruleset see_cases = (see_destination, see_later, see_next)

-- The upper end

-- a state that waits gives its arrival
pub upper_at : (kind a k : ℕ) → kind ≡ 1 → at_most a ≡ upper_end (label_of kind a k)
upper_at kind a k e = sym (ap (λ (n : ℕ). upper_end (label_of n a k)) e)

-- another gives none
pub upper_none : (kind a k : ℕ) → kind ≢ 1 → none ≡ upper_end (label_of kind a k)
upper_none zero a k n = refl
upper_none (suc zero) a k n = absurd (n refl)
upper_none (suc (suc m)) a k n = refl
