-- How a cover is found, over plain numbers: the edge by a walk over those that begin at u, then its earliest late second.
use Rattle.std.specs.Prelude.{ℕ, ◌≤◌, ◌<◌, ◌≡◌, ◌≢◌, true, Some, None, eqb}
use Rattle.std.proofs.Math.Path.{ap, sym}
use Rattle.std.proofs.Common.{◌∙◌, arith}
use Rattle.std.proofs.Math.Bool.{false, not}
use Rattle.std.proofs.Math.Decide.{ℕ_discrete}
use borrow.Author.Tests.{eq-eqb, ne_eqb}
use Rattle.block.specs.Choose.{choose_yes, choose_no, both_yes, both_no}
use Rattle.block.specs.First.{first_is, first_of}
use Rattle.theory.specs.Network.{Piece}
use Rattle.records.specs.Format.{Volume}
use Rattle.records.specs.Index.{NoneBefore}
use Rattle.full.specs.Cover.{leads, edge_with, first_late, cover_of}
use Rattle.full.specs.declared.cover.Flaw.TheVariants.{Missing, Late}

module _ (vol : Volume) (u w : ℕ) where
  -- an edge that leads from u to w, and one that does not

  leads_yes : (d : ℕ) → vol.edge_from d ≡ u → vol.edge_to d ≡ w → leads vol u w d ≡ true
  unfolding leads
  leads_yes d f t = both_yes _ (eq-eqb (vol.edge_from d) u f) ∙ eq-eqb (vol.edge_to d) w t

  leads_no : (d : ℕ) → (vol.edge_from d ≡ u → vol.edge_to d ≢ w) → leads vol u w d ≡ false
  unfolding leads
  leads_no d n = go (ℕ_discrete (vol.edge_from d) u)
    where
      go : Dec (vol.edge_from d ≡ u) → leads vol u w d ≡ false
      go (yes f) = both_yes _ (eq-eqb (vol.edge_from d) u f) ∙ ne_eqb (vol.edge_to d) w (n f)
      go (no f) = both_no _ (ne_eqb (vol.edge_from d) u f)

  -- the walk finds the edge
  pub edge_found : (e : ℕ) → e < vol.edges → NoneBefore vol u w e → vol.edge_to e ≡ w → e ≡ edge_with vol u w
  unfolding edge_with
  edge_found e lt N t =
      sym (first_is (λ d. not (leads vol u w d)) vol.edges e
      (record {
        low = omega arith;
        high = omega arith;
        before = λ i a b. ap not (leads_no i (N.none i b));
        here = λ h. ap not (leads_yes e (N.begins_there lt) t);
      }))

  -- or comes to its end
  pub edge_none : (e : ℕ) → vol.edges ≤ e → NoneBefore vol u w e → e ≡ edge_with vol u w
  unfolding edge_with
  edge_none e le N =
      let top = N.inside in
      sym (first_is (λ d. not (leads vol u w d)) vol.edges e
      (record {
        low = omega arith;
        high = omega arith;
        before = λ i a b. ap not (leads_no i (N.none i b));
        here = λ h. absurd (omega arith);
      }))

  -- what the edge with the ends u and w is
  pub edge_high : edge_with vol u w ≤ vol.edges
  unfolding edge_with
  edge_high = (first_of (λ d. not (leads vol u w d)) vol.edges).high

  -- the three covers

  module _ (q : Piece) (e : ℕ) (is : e ≡ edge_with vol u w) where
    -- no edge is found
    pub cover_missing : e ≡ vol.edges → cover_of vol u w q ≡ Some Missing
    unfolding cover_of
    cover_missing z = choose_yes _ _ (eq-eqb (edge_with vol u w) vol.edges (sym is ∙ z))

    module _ (ne : e ≢ vol.edges) (x : ℕ) (at : x ≡ first_late vol e q) where
      late_at : first_late vol (edge_with vol u w) q ≡ x
      late_at = sym (at ∙ ap (λ (d : ℕ). first_late vol d q) is)

      there : eqb (edge_with vol u w) vol.edges ≡ false
      there = ne_eqb (edge_with vol u w) vol.edges (λ z. ne (is ∙ z))

      -- one is, and it is never late
      pub cover_fine : x ≡ vol.period → cover_of vol u w q ≡ None
      unfolding cover_of
      cover_fine z = choose_no _ _ there ∙ choose_yes _ _ (eq-eqb (first_late vol (edge_with vol u w) q) vol.period (late_at ∙ z))

      -- or late first at x
      pub cover_late : x ≢ vol.period → cover_of vol u w q ≡ Some (Late x)
      unfolding cover_of
      cover_late n =
          choose_no _ _ there
          ∙ choose_no _ _ (ne_eqb (first_late vol (edge_with vol u w) q) vol.period (λ z. n (sym late_at ∙ z)))
          ∙ ap (λ (y : ℕ). Some (Late y)) late_at
