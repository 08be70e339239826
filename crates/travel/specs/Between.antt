-- The laws of `between`, the duration between two points: it is the points' own at their seconds, lies between any bounds of both,
-- and lets no later second arrive earlier where the duration falls by no more than the seconds between. This file alone knows
-- how `between` rounds.
use Rattle.std.specs.Prelude.{ℕ, ◌+◌, ◌-◌, ◌*◌, ◌/◌, ◌≤◌, ◌<◌, ◌≡◌}
use Rattle.std.proofs.Math.Path.{ap}
use Rattle.std.proofs.Common.{sym, ◌∙◌, mul-add, mul-div_cancel, le-div_iff_mul-le}
use native.Mathlib.Omega.{arith}
use Rattle.std.proofs.Math.Nat.{mul-le-mul_right, add-mul, mul_comm, div-le_of_le-mul, mul-add-div_right}
use Rattle.travel.specs.Road.{between}

-- a larger number has no smaller quotient
div_mono : (a b w : ℕ) → 0 < w → a ≤ b → a / w ≤ b / w
div_mono a b w h l = (le-div_iff_mul-le h).1 (omega (arith, (le-div_iff_mul-le h).0 (le_self (a / w))))
  where
    le_self : (q : ℕ) → q ≤ q
    le_self q = omega arith

module _ (t₀ f₀ t₁ f₁ : ℕ) (apart : t₀ < t₁) where
  -- the first point's own duration at its second
  pub between_start : between t₀ f₀ t₁ f₁ t₀ ≡ f₀
  unfolding between
  between_start =
      let e : f₀ * (t₁ - t₀) + f₁ * (t₀ - t₀) ≡ f₀ * (t₁ - t₀) = (let z : t₀ - t₀ ≡ 0 = omega arith in rw z (omega arith)) in
      rw e (mul-div_cancel f₀ (omega arith))

  -- and the second's
  pub between_end : between t₀ f₀ t₁ f₁ t₁ ≡ f₁
  unfolding between
  between_end =
      let e : f₀ * (t₁ - t₁) + f₁ * (t₁ - t₀) ≡ f₁ * (t₁ - t₀) = (let z : t₁ - t₁ ≡ 0 = omega arith in rw z (omega arith)) in
      rw e (mul-div_cancel f₁ (omega arith))

  -- the whole of m, in two parts
  whole : (m x : ℕ) → t₀ ≤ x → x ≤ t₁ → m * (t₁ - x) + m * (x - t₀) ≡ m * (t₁ - t₀)
  whole m x a b =
      sym (mul-add m (t₁ - x) (x - t₀)) ∙ ap (λ (w : ℕ). m * w) (let e : t₁ - x + (x - t₀) ≡ t₁ - t₀ = omega arith in e)

  -- no less than a bound below both durations
  pub between_least : (m x : ℕ) → t₀ ≤ x → x ≤ t₁ → m ≤ f₀ → m ≤ f₁ → m ≤ between t₀ f₀ t₁ f₁ x
  unfolding between
  between_least m x a b p q =
      (le-div_iff_mul-le {k = t₁ - t₀} (omega arith)).1
      (omega (arith, whole m x a b, mul-le-mul_right (t₁ - x) p, mul-le-mul_right (x - t₀) q))

  -- no more than a bound above both
  pub between_most : (m x : ℕ) → t₀ ≤ x → x ≤ t₁ → f₀ ≤ m → f₁ ≤ m → between t₀ f₀ t₁ f₁ x ≤ m
  unfolding between
  between_most m x a b p q =
      div-le_of_le-mul (t₁ - t₀)
      (omega (arith, whole m x a b, mul_comm (t₁ - t₀) m, mul-le-mul_right (t₁ - x) p, mul-le-mul_right (x - t₀) q))

  -- a later second never arrives earlier
  pub between_fifo : (x y : ℕ) → t₀ ≤ x → x ≤ y → y ≤ t₁ → f₀ ≤ f₁ + (t₁ - t₀)
      → x + between t₀ f₀ t₁ f₁ x ≤ y + between t₀ f₀ t₁ f₁ y
  unfolding between
  between_fifo x y a l b fall =
      let w = t₁ - t₀ in
      let k = y - x in
      let u : t₁ - x ≡ t₁ - y + k = omega arith in
      let z : y - t₀ ≡ x - t₀ + k = omega arith in
      let yx : y ≡ x + k = omega arith in
      let p : f₀ * (t₁ - x) ≡ f₀ * (t₁ - y) + f₀ * k = rw u (mul-add f₀ (t₁ - y) k) in
      let q : f₁ * (y - t₀) ≡ f₁ * (x - t₀) + f₁ * k = rw z (mul-add f₁ (x - t₀) k) in
      let r : y * w ≡ x * w + k * w = ap (λ (m : ℕ). m * w) yx ∙ add-mul x k w in
      let m = mul-le-mul_right k fall in
      let o = add-mul f₁ w k in
      let v = mul_comm w k in
      let i = mul-add-div_right {m = w} (omega arith) x (f₀ * (t₁ - x) + f₁ * (x - t₀)) in
      let j = mul-add-div_right {m = w} (omega arith) y (f₀ * (t₁ - y) + f₁ * (y - t₀)) in
      omega (
        arith,
        div_mono (x * w + (f₀ * (t₁ - x) + f₁ * (x - t₀))) (y * w + (f₀ * (t₁ - y) + f₁ * (y - t₀))) w (omega arith) (omega arith),
      )
