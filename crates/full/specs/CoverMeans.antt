-- The cover that is found is the one that holds, on a sound volume; and no other holds.
use Rattle.std.specs.Prelude.{ℕ, ◌≤◌, ◌<◌, ◌≡◌, Option, Some, None, eqb}
use Rattle.std.proofs.Math.Path.{refl}
use Rattle.std.proofs.Common.{sym, ◌∙◌, arith}
use Rattle.std.proofs.Math.Bool.{not}
use Rattle.std.proofs.Math.Decide.{ℕ_discrete}
use borrow.Author.Tests.{eq-eqb, eqb-true, eqb-false, le-leb, lt-leb, leb-true, leb-false, not-true, not-false}
use Rattle.block.specs.Choose.{both_yes, both_left, both_right}
use Rattle.block.specs.First.{FirstOf, first_of, first_is}
use Rattle.theory.specs.Network.{Piece}
use Rattle.records.specs.Format.{Volume}
use Rattle.volume.specs.Sound.{Sound}
use Rattle.travel.specs.Network.{network_of, arrival}
use Rattle.full.specs.Cover.{arrival_by, leads, edge_with, no_slower, first_late, cover_of}
use Rattle.full.specs.CoverFound.{edge_found, edge_none, edge_high, cover_missing, cover_fine, cover_late}
use Rattle.full.specs.Means.{NoEdge, CoverSays}
use Rattle.full.specs.declared.cover.Flaw.{Flaw}
use Rattle.full.specs.declared.cover.Flaw.TheVariants.{Missing, Late}

module _ (vol : Volume) (u w : ℕ) (q : Piece) where
  -- the two searches

  edge_first : FirstOf (λ d. not (leads vol u w d)) 0 vol.edges (edge_with vol u w)
  unfolding edge_with
  edge_first = first_of (λ d. not (leads vol u w d)) vol.edges

  late_first : (d : ℕ) → FirstOf (no_slower vol d q) 0 vol.period (first_late vol d q)
  unfolding first_late
  late_first d = first_of (no_slower vol d q) vol.period

  -- the edge that is found leads from u to w
  edge_leads : edge_with vol u w < vol.edges
      → (vol.edge_from (edge_with vol u w) ≡ u) × (vol.edge_to (edge_with vol u w) ≡ w)
  unfolding leads
  edge_leads lt =
      let d = edge_with vol u w in
      let t = not-false (leads vol u w d) (edge_first.here lt) in (
        eqb-true (vol.edge_from d) u (both_left (eqb (vol.edge_from d) u) (eqb (vol.edge_to d) w) t),
        eqb-true (vol.edge_to d) w (both_right (eqb (vol.edge_from d) u) (eqb (vol.edge_to d) w) t),
      )

  -- where none is found there is none
  edge_lacks : edge_with vol u w ≡ vol.edges → NoEdge vol u w
  unfolding leads
  edge_lacks z d lt f =
      let t = not-true (leads vol u w d) (edge_first.before d (omega arith) (omega arith)) in
      eqb-false (vol.edge_to d) w (sym (both_yes (eqb (vol.edge_to d) w) (eq-eqb (vol.edge_from d) u f)) ∙ t)

  -- no slower before the first late second, and late there

  in_time : (d y : ℕ) → y < first_late vol d q → arrival vol d y ≤ arrival_by vol q y
  unfolding no_slower
  in_time d y h = leb-true (arrival vol d y) (arrival_by vol q y) ((late_first d).before y (omega arith) h)

  late_there : (d : ℕ) → first_late vol d q < vol.period → arrival_by vol q (first_late vol d q) < arrival vol d (first_late vol d q)
  unfolding no_slower
  late_there d h = leb-false (arrival vol d (first_late vol d q)) (arrival_by vol q (first_late vol d q)) ((late_first d).here h)

  -- what is found holds
  pub cover_says : CoverSays vol u w q (cover_of vol u w q)
  unfolding network_of
  cover_says = go (ℕ_discrete (edge_with vol u w) vol.edges) (ℕ_discrete (first_late vol (edge_with vol u w) q) vol.period)
    where
      go : Dec (edge_with vol u w ≡ vol.edges) → Dec (first_late vol (edge_with vol u w) q ≡ vol.period)
          → CoverSays vol u w q (cover_of vol u w q)
      go (yes z) l = rw (cover_missing vol u w q (edge_with vol u w) refl z) (edge_lacks z)
      go (no n) (yes z) =
          let d = edge_with vol u w in
          let lt : d < vol.edges = omega (arith, edge_high vol u w) in
          rw (cover_fine vol u w q d refl n (first_late vol d q) refl z)
          (record {
            edge = d;
            there = lt;
            starts = (edge_leads lt).0;
            ends = (edge_leads lt).1;
            never_slower = λ y h. in_time d y (omega arith);
          })
      go (no n) (no m) =
          let d = edge_with vol u w in
          let lt : d < vol.edges = omega (arith, edge_high vol u w) in
          let inside : first_late vol d q < vol.period = omega (arith, (late_first d).high) in
          rw (cover_late vol u w q d refl n (first_late vol d q) refl m)
          (record {
            edge = d;
            there = lt;
            starts = (edge_leads lt).0;
            ends = (edge_leads lt).1;
            in_period = inside;
            late = late_there d inside;
            earliest = in_time d;
          })

  -- an edge from u to w is the one that is found
  found : Sound vol → (d : ℕ) → d < vol.edges → vol.edge_from d ≡ u → vol.edge_to d ≡ w → d ≡ edge_with vol u w
  found S d lt f t =
      edge_found vol u w d lt
      (record {
        inside = omega arith;
        begins_there = λ l. f;
        none = λ j l g z. (S.edge d lt).one_edge j l (g ∙ sym f) (z ∙ sym t);
      })
      t

  -- only what holds is found
  pub cover_is : Sound vol → (c : Option Flaw) → CoverSays vol u w q c → cover_of vol u w q ≡ c
  unfolding network_of first_late no_slower
  cover_is S (Some Missing) h =
      cover_missing vol u w q vol.edges
      (edge_none vol u w vol.edges (omega arith)
      (record { inside = omega arith; begins_there = λ l. absurd (omega arith); none = h }))
      refl
  cover_is S (Some (Late y)) h =
      cover_late vol u w q h.edge (found S h.edge h.there h.starts h.ends) (λ z. let l = h.there in omega arith) y
      (sym (first_is (no_slower vol h.edge q) vol.period y
      (record {
        low = omega arith;
        high = let l = h.in_period in omega arith;
        before = λ i a b. le-leb (arrival vol h.edge i) (arrival_by vol q i) (h.earliest i b);
        here = λ l. lt-leb (arrival vol h.edge y) (arrival_by vol q y) h.late;
      })))
      (λ z. let l = h.in_period in omega arith)
  cover_is S None h =
      cover_fine vol u w q h.edge (found S h.edge h.there h.starts h.ends) (λ z. let l = h.there in omega arith) vol.period
      (sym (first_is (no_slower vol h.edge q) vol.period vol.period
      (record {
        low = omega arith;
        high = omega arith;
        before = λ i a b. le-leb (arrival vol h.edge i) (arrival_by vol q i) (h.never_slower i b);
        here = λ l. absurd (omega arith);
      })))
      refl
