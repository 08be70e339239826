-- Edges by their pieces, on a sound network: the one equation of an edge's arrival, induction over pieces, and what it gives at
-- once. An edge arrives later than it leaves, repeats with the period, and takes no longer than its span of the longest roads.
use Prim.Native.Nat.{ℕ, zero, suc, ◌+◌, ◌*◌, ◌%◌, ◌≤◌, ◌<◌}
use Rattle.std.proofs.Common.{not-suc-le-zero, mod-lt, mul-le-mul_right, add-mul, arith, sym, ◌∙◌}
use Rattle.std.proofs.Math.Nat.{mul-add-mod_self_right}
use Rattle.std.specs.Prelude.{◌≡◌}
use Rattle.std.proofs.Math.Path.{refl, ap}
use Rattle.theory.specs.Network.{Piece, road_of, pair_of, Network, road_arr, by_piece, by_depth, edge_arr, Fits, SoundNetwork, Bounded}
use Rattle.theory.specs.Pieces.{InForce}

module _ (M : Network) (S : SoundNetwork M) where
  open M use {period, edges, in_force}

  -- every second has a second of the period
  pub second_in : (x : ℕ) → x % period < period
  second_in x = mod-lt x S.period_some

  -- the piece in force at any second fits
  fits_at : (e x : ℕ) → e < edges → Fits M e (in_force e (x % period))
  fits_at e x c = S.fits e (x % period) c (second_in x)

  -- a step that asks only for edges below
  module _ {A : Type 0} (a : A) (step : (ℕ → ℕ → A) → ℕ → Piece → A)
      (asks_below : (e x : ℕ) (q : Piece) → Fits M e q → (f g : ℕ → ℕ → A) → ((d y : ℕ) → d < e → f d y ≡ g d y) → step f x q ≡ step g x q)
    where
      -- depth does not matter once it is above the edge's number
      deep_enough : (n m e x : ℕ) → e < n → e < m → e < edges → by_depth M a step n e x ≡ by_depth M a step m e x
      unfolding by_depth
      deep_enough zero m e x h k c = absurd (not-suc-le-zero h)
      deep_enough (suc n) zero e x h k c = absurd (not-suc-le-zero k)
      deep_enough (suc n) (suc m) e x h k c =
          asks_below e x (in_force e (x % period)) (fits_at e x c) (by_depth M a step n) (by_depth M a step m)
          (λ d y l. deep_enough n m d y (omega arith) (omega arith) (omega arith))

      -- at that depth the step makes an edge of its piece in force
      pub depth_is : (e x : ℕ) → e < edges
          → by_depth M a step (suc e) e x ≡ step (λ d y. by_depth M a step (suc d) d y) x (in_force e (x % period))
      unfolding by_depth
      depth_is e x c =
          asks_below e x (in_force e (x % period)) (fits_at e x c) (by_depth M a step e) (λ d y. by_depth M a step (suc d) d y)
          (λ d y l. deep_enough e (suc d) d y l (omega arith) (omega arith))

  -- the edge at a departure is its piece in force
  pub edge_is : (e x : ℕ) → e < edges → edge_arr M e x ≡ by_piece M (edge_arr M) x (in_force e (x % period))
  unfolding edge_arr
  edge_is e x c = depth_is 0 (by_piece M) asks_below e x c
    where
      asks_below : (e x : ℕ) (q : Piece) → Fits M e q → (f g : ℕ → ℕ → ℕ) → ((d y : ℕ) → d < e → f d y ≡ g d y)
          → by_piece M f x q ≡ by_piece M g x q
      asks_below e x (road_of k) h f g i = refl
      asks_below e x (pair_of l r) h f g i = i r (f l x) h.1 ∙ ap (g r) (i l x h.0)

  -- induction over pieces: what holds of an edge at x by a road, and by two edges in turn where it holds of both, holds of every edge
  pub by_pieces : (P : ℕ → ℕ → Type 0) → ((e x k : ℕ) → e < edges → InForce M e x (road_of k) → P e x)
      → ((e x l r : ℕ) → e < edges → InForce M e x (pair_of l r) → P l x → P r (edge_arr M l x) → P e x)
      → (e x : ℕ) → e < edges → P e x
  by_pieces P road pair e x c = below (suc e) e x (omega arith) c
    where
      one : (n e x : ℕ) → ((d y : ℕ) → d < n → d < edges → P d y) → e < suc n → e < edges → (q : Piece) → InForce M e x q → P e x
      one n e x ih h c (road_of k) i = road e x k c i
      one n e x ih h c (pair_of l r) i =
          pair e x l r c i (ih l x (omega (arith, i.fit.0)) (omega (arith, i.fit.0)))
          (ih r (edge_arr M l x) (omega (arith, i.fit.1)) (omega (arith, i.fit.1)))

      below : (n e x : ℕ) → e < n → e < edges → P e x
      below zero e x h c = absurd (not-suc-le-zero h)
      below (suc n) e x h c =
          one n e x (below n) h c (in_force e (x % period)) (record { chosen = refl; fit = fits_at e x c; arrives = edge_is e x c })

  -- every edge arrives later than it leaves
  pub edge_later : (e x : ℕ) → e < edges → x < edge_arr M e x
  edge_later = by_pieces (λ e x. x < edge_arr M e x)
      (λ e x k c i. omega (arith, S.lasts k (x % period) i.fit.0 (second_in x), i.arrives))
      (λ e x l r c i hl hr. omega (arith, i.arrives))

  -- a road repeats with the period
  pub road_repeats : (k q x : ℕ) → road_arr M k (q * period + x) ≡ q * period + road_arr M k x
  road_repeats k q x = rw (mul-add-mod_self_right q period x) (omega arith)

  -- an edge repeats with the period
  pub edge_repeats : (e q x : ℕ) → e < edges → edge_arr M e (q * period + x) ≡ q * period + edge_arr M e x
  edge_repeats e q x c = by_pieces (λ e x. edge_arr M e (q * period + x) ≡ q * period + edge_arr M e x)
      (λ e x k c i. later e x (road_of k) c i ∙ road_repeats k q x ∙ ap (λ t. q * period + t) (sym i.arrives))
      (λ e x l r c i hl hr. later e x (pair_of l r) c i ∙ ap (edge_arr M r) hl ∙ hr ∙ ap (λ t. q * period + t) (sym i.arrives))
      e x c
    where
      later : (e x : ℕ) (p : Piece) → e < edges → InForce M e x p
          → edge_arr M e (q * period + x) ≡ by_piece M (edge_arr M) (q * period + x) p
      later e x p c i =
          edge_is e (q * period + x) c
          ∙ ap (λ t. by_piece M (edge_arr M) (q * period + x) (in_force e t)) (mul-add-mod_self_right q period x)
          ∙ ap (by_piece M (edge_arr M) (q * period + x)) i.chosen

  -- an edge takes at most the longest duration for each road of its span
  pub edge_bound : (longest : ℕ) (span : ℕ → ℕ) → Bounded M longest span → (e x : ℕ) → e < edges → edge_arr M e x ≤ x + span e * longest
  edge_bound longest span B = by_pieces (λ e x. edge_arr M e x ≤ x + span e * longest)
      (λ e x k c i.
      let s : 1 ≤ span e = rw i.chosen at (B.spans e (x % period) c (second_in x)) in
      omega (arith, i.arrives, B.short k (x % period) i.fit.0 (second_in x), mul-le-mul_right longest s))
      (λ e x l r c i hl hr.
      let s : span l + span r ≤ span e = rw i.chosen at (B.spans e (x % period) c (second_in x)) in
      omega (arith, i.arrives, mul-le-mul_right longest s, add-mul (span l) (span r) longest))
