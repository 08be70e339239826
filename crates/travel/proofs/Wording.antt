-- That the duration between two points is worded as the document words it. First what the floor is; then that `between` is `worded`; at
-- the end a road at each second of the period, with its two neighbours named.
use Prim.Native.Nat.{ℕ, zero, suc, ◌+◌, ◌-◌, ◌*◌, ◌/◌, ◌≤◌, ◌<◌}
use Rattle.std.specs.Prelude.{◌≡◌, refl, ℤ, negsuc, neg_ℤ, ◌+ℤ◌, ◌*ℤ◌, ◌≤ℤ◌, ◌<ℤ◌}
use Rattle.std.proofs.Math.Path.{ap}
use Rattle.std.proofs.Common.{sym, ◌∙◌, le→leb, lt→ltb, div-add-mod', mod-lt, mul-add, mul-div_cancel, div-lt_iff_lt-mul}
use Rattle.std.proofs.Math.IntN.{pos, suc_ℤ}
use Rattle.std.proofs.Math.Decide.{dec_lt}
use native.Mathlib.Omega.{arith}
use Rattle.std.proofs.Math.Nat.{add-mul, mul-add-div_right, zero-div, div-eq_of_lt-le}
use Rattle.volume.specs.Sound.{Points}
use Rattle.travel.specs.Last.{IsLast, last_is, rise_far, above_from}
use Rattle.travel.specs.Road.{between, right_second, right_duration, from_point, road_duration}
use Rattle.travel.specs.Lines.{OnLine, right_next, right_over, right, last_line, point_line}
use Rattle.travel.specs.RoadLaws.{road_early, road_late}
use Rattle.travel.specs.Wording.{floor, worded, neg_le, neg_lt, minus_pos, minus_neg}

-- the floor is the whole number q with q·w ≤ z < (q + 1)·w
pub floor_is : (z : ℤ) (w : ℕ) → 0 < w → ((floor z w *ℤ pos w) ≤ℤ z) × (z <ℤ (suc_ℤ (floor z w) *ℤ pos w))
unfolding floor
floor_is (pos n) w h =
    let e = div-add-mod' n w in
    let l = mod-lt n h in
    (record { le = le→leb (n / w * w) n (omega arith) }, record { lt = lt→ltb n (suc (n / w) * w) (omega arith) })
floor_is (negsuc n) w h = (neg_le (suc (n / w) * w) n (omega (arith, div-add-mod' n w, mod-lt n h)), above (n / w) (omega (arith, div-add-mod' n w)))
  where
    above : (q : ℕ) → q * w ≤ n → negsuc n <ℤ (suc_ℤ (negsuc q) *ℤ pos w)
    above zero l = record { lt = tt }
    above (suc q) l = neg_lt (suc q * w) n l

module _ (t₀ f₀ t₁ f₁ x : ℕ) (apart : t₀ < t₁) (after : t₀ ≤ x) (before : x ≤ t₁) where
  -- the two parts of the width, times any duration
  parts : (f : ℕ) → f * (t₁ - t₀) ≡ f * (t₁ - x) + f * (x - t₀)
  parts f = ap (λ (w : ℕ). f * w) (let e : t₁ - t₀ ≡ t₁ - x + (x - t₀) = omega arith in e) ∙ mul-add f (t₁ - x) (x - t₀)

  -- where the duration rises, or stays
  slower : f₀ ≤ f₁ → between t₀ f₀ t₁ f₁ x ≡ f₀ + (f₁ - f₀) * (x - t₀) / (t₁ - t₀)
  unfolding between
  slower h =
      let g = f₁ - f₀ in
      let e : f₁ ≡ f₀ + g = omega arith in
      let q = ap (λ (f : ℕ). f * (x - t₀)) e ∙ add-mul f₀ g (x - t₀) in
      let r : f₀ * (t₁ - x) + f₁ * (x - t₀) ≡ f₀ * (t₁ - t₀) + g * (x - t₀) = omega (arith, parts f₀) in
      ap (λ (a : ℕ). a / (t₁ - t₀)) r ∙ mul-add-div_right {m = t₁ - t₀} (omega arith) f₀ (g * (x - t₀))

  -- where the road quickens, by K parts of the width at x
  quicker : (K : ℕ) → f₁ < f₀ → suc (f₀ - suc f₁) * (x - t₀) ≡ K
      → pos (between t₀ f₀ t₁ f₁ x) ≡ pos f₀ +ℤ floor (neg_ℤ (pos K)) (t₁ - t₀)
  unfolding between floor
  quicker K h k = go K (omega (arith, parts f₀, fallen))
    where
      fallen : f₀ * (x - t₀) ≡ f₁ * (x - t₀) + K
      fallen =
          ap (λ (f : ℕ). f * (x - t₀)) (let e : f₀ ≡ f₁ + suc (f₀ - suc f₁) = omega arith in e)
          ∙ add-mul f₁ (suc (f₀ - suc f₁)) (x - t₀)
          ∙ ap (λ (b : ℕ). f₁ * (x - t₀) + b) k

      go : (K : ℕ) → f₀ * (t₁ - x) + f₁ * (x - t₀) + K ≡ f₀ * (t₁ - t₀)
          → pos ((f₀ * (t₁ - x) + f₁ * (x - t₀)) / (t₁ - t₀)) ≡ pos f₀ +ℤ floor (neg_ℤ (pos K)) (t₁ - t₀)
      go zero e =
          let r : f₀ * (t₁ - x) + f₁ * (x - t₀) ≡ f₀ * (t₁ - t₀) = omega arith in
          rw (r, mul-div_cancel f₀ {n = t₁ - t₀} (omega arith), zero-div (t₁ - t₀)) (ap pos (omega arith))
      go (suc m) e =
          let w = t₁ - t₀ in
          let q = m / w in
          let b : q < f₀ = (div-lt_iff_lt-mul {k = w} (omega arith)).1 (omega arith) in
          let p = f₀ - suc q in
          let s : f₀ ≡ p + suc q = omega arith in
          let u = ap (λ (f : ℕ). f * w) s ∙ add-mul p (suc q) w in
          let v = div-add-mod' m w in
          let l = mod-lt m {m = w} (omega arith) in
          let r : (f₀ * (t₁ - x) + f₁ * (x - t₀)) / w ≡ p = div-eq_of_lt-le {k = p} w (omega arith) (omega arith) in
          ap pos r ∙ sym (minus_pos f₀ (suc q) b)

  -- between two points, the duration is the document's
  pub between_worded : pos (between t₀ f₀ t₁ f₁ x) ≡ worded t₀ f₀ t₁ f₁ x
  unfolding floor
  between_worded = go (dec_lt f₁ f₀)
    where
      go : Dec (f₁ < f₀) → pos (between t₀ f₀ t₁ f₁ x) ≡ worded t₀ f₀ t₁ f₁ x
      go (yes h) = rw (minus_neg f₁ f₀ h, minus_pos x t₀ after) (quicker (suc (f₀ - suc f₁) * (x - t₀)) h refl)
      go (no g) =
          let h : f₀ ≤ f₁ = omega arith in
          rw (minus_pos f₁ f₀ h, minus_pos x t₀ after) (ap pos (slower h))

-- a road with sound points, at second t of the period
module _ (period n : ℕ) (s d : ℕ → ℕ) (P : Points period n s d) (t : ℕ) (h : t < period) where
  -- on the line from point i
  on_line : (i x : ℕ) → OnLine period n s d i x → road_duration period n s d t ≡ from_point period n s d i x
      → pos (road_duration period n s d t) ≡ worded (s i) (d i) (right_second period n s d i) (right_duration period n s d i) x
  unfolding from_point
  on_line i x o e =
      ap pos e
      ∙ between_worded (s i) (d i) (right_second period n s d i) (right_duration period n s d i) x (right period n s d P i o.point).later
      o.after (omega (arith, o.before))

  -- between point i and the next
  pub road_between : (i : ℕ) → i + 1 < n → s i ≤ t → t < s (i + 1)
      → pos (road_duration period n s d t) ≡ worded (s i) (d i) (s (i + 1)) (d (i + 1)) t
  road_between i l a b =
      let q = right_next period n s d i l in
      let last : IsLast s n t i = record {
        below = omega arith;
        le = a;
        above = λ j g k. above_from s n t (i + 1) P.rise b j (omega arith) k;
      } in
      let first : s 0 ≤ t = omega (arith, rise_far s n P.rise 0 i (omega arith) (omega arith)) in
      let e = road_late period n s d t i first (sym (last_is s n t i last)) in
      rw (q.0, q.1) at (on_line i t (point_line period n s d P t i (omega arith) last) e)

  -- after the last point: the first of the next period is the right neighbour
  pub road_after : s (n - 1) ≤ t → pos (road_duration period n s d t) ≡ worded (s (n - 1)) (d (n - 1)) (s 0 + period) (d 0) t
  road_after a =
      let q = right_over period n s d (n - 1) (omega arith) in
      let some = P.some in
      let last : IsLast s n t (n - 1) = record { below = omega arith; le = a; above = λ j g k. absurd (omega arith) } in
      let first : s 0 ≤ t = omega (arith, rise_far s n P.rise 0 (n - 1) (omega arith) (omega arith)) in
      let e = road_late period n s d t (n - 1) first (sym (last_is s n t (n - 1) last)) in
      rw (q.0, q.1) at (on_line (n - 1) t (point_line period n s d P t (n - 1) (omega arith) last) e)

  -- before the first point: the last of the period before is the left neighbour. The seconds are counted from that period's start.
  pub road_before : t < s 0 → pos (road_duration period n s d t) ≡ worded (s (n - 1)) (d (n - 1)) (s 0 + period) (d 0) (t + period)
  road_before b =
      let q = right_over period n s d (n - 1) (omega arith) in
      let some = P.some in
      let o = last_line period n s d P (t + period) (omega (arith, P.in_period (n - 1) (omega arith))) (omega arith) in
      rw (q.0, q.1) at (on_line (n - 1) (t + period) o (road_early period n s d t b))
