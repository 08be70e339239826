-- A pass over all roads or all edges: what it finds and how it ends. What each step of a pass learns is in RoadSteps and EdgeSteps of
-- the crate `rules`.
use Rattle.std.specs.Prelude.{ℕ, ◌≤◌, ◌<◌, ◌≡◌, Bool, false, Result, Ok, Err}
use Rattle.std.proofs.Common.{sym, ◌∙◌, arith}
use Rattle.std.proofs.Math.Path.{ap}
use borrow.Author.Tests.{eq-eqb, ne_eqb}
use Rattle.block.specs.Choose.{choose, choose_yes, choose_no, both_yes, both_no}
use Rattle.block.specs.First.{first_not, Passed, first_stop, first_end, all_stop, all_end}
use Rattle.records.specs.Format.{Volume}
use Rattle.rules.specs.Rules.{begins, road_rule, all_obey, edge_rule}
use Rattle.block.specs.declared.refusal.Refusal.{Refusal}
use Rattle.block.specs.declared.refusal.Refusal.TheVariants.{Road, Edge}

-- a pass over n records: each obeys and no part is left over, or the first record at fault is refused
unfoldable pub pass_over : (ℕ → Refusal) → (ℕ → Bool) → (ℕ → ℕ) → (ℕ → ℕ) → ℕ → ℕ → Result Unit Refusal
pass_over fault rule first number n total = choose (all_obey rule first number n total) (Ok tt) (Err (fault (first_not rule n 0)))

abbrev pub roads_pass : Volume → Result Unit Refusal
roads_pass vol = pass_over Road (road_rule vol) vol.road_first vol.road_points vol.roads vol.points

abbrev pub edges_pass : Volume → Result Unit Refusal
edges_pass vol = pass_over Edge (edge_rule vol) vol.edge_first vol.edge_pieces vol.edges vol.pieces

-- how a pass over n records ends, that has come to record k and to part b: at a fault, with parts left over, with none

module _ (fault : ℕ → Refusal) (rule : ℕ → Bool) (first number : ℕ → ℕ) (n total k : ℕ) where
  pub pass_fault : k < n → rule k ≡ false → Passed rule n k → pass_over fault rule first number n total ≡ Err (fault k)
  unfolding pass_over all_obey
  pass_fault lt bad h =
      choose_no _ _ (both_no _ (all_stop rule n k lt bad h)) ∙ ap (λ (i : ℕ). Err (fault i)) (sym (first_stop rule n k lt bad h))

  module _ (b : ℕ) (le : n ≤ k) (ge : k ≤ n) (h : Passed rule n k) (is : b ≡ begins first number k) where
    last_is : b ≡ begins first number n
    last_is = is ∙ ap (begins first number) (let e : k ≡ n = omega arith in e)

    pub pass_over_lem : (b ≡ total → ⊥) → pass_over fault rule first number n total ≡ Err (fault k)
    unfolding pass_over all_obey
    pass_over_lem ne =
        choose_no _ _ (both_yes _ (all_end rule n k le ge h) ∙ ne_eqb (begins first number n) total (λ z. ne (last_is ∙ z)))
        ∙ ap (λ (i : ℕ). Err (fault i)) (sym (first_end rule n k le h))

    pub pass_fine : b ≡ total → pass_over fault rule first number n total ≡ Ok tt
    unfolding pass_over all_obey
    pass_fine e =
        choose_yes _ _ (both_yes _ (all_end rule n k le ge h) ∙ eq-eqb (begins first number n) total (sym last_is ∙ e))
