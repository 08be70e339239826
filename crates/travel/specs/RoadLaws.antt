-- The laws of a road's duration, from sound points, over any period: it lasts at least 1 and at most the longest duration, and a later
-- second never arrives earlier, inside the period and over its end. Everything above uses these. That a road with one point is a
-- constant stands at the end.
use Rattle.std.specs.Prelude.{ℕ, ◌+◌, ◌-◌, ◌≤◌, ◌<◌, ◌≡◌, refl}
use Rattle.std.proofs.Math.Path.{ap}
use Rattle.std.proofs.Common.{sym, ◌∙◌, lt-ltb, le-ltb, arith}
use Rattle.std.proofs.Math.Decide.{dec_lt}
use Rattle.block.specs.Choose.{choose_yes, choose_no}
use Rattle.rules.specs.Rules.{longest}
use Rattle.volume.specs.Sound.{Points}
use Rattle.travel.specs.Last.{last_le, last_is_last, rise_far}
use Rattle.travel.specs.Road.{from_point, road_duration}
use Rattle.travel.specs.Lines.{OnLine, right_over, right, line_least, line_most, lines_fifo, line_over, line_from, last_line, point_line}

module _ (period n : ℕ) (s d : ℕ → ℕ) where
  -- the duration before the first point, and from it on
  pub road_early : (t : ℕ) → t < s 0 → road_duration period n s d t ≡ from_point period n s d (n - 1) (t + period)
  unfolding road_duration
  road_early t h = choose_yes _ _ (lt-ltb _ _ h)

  pub road_late : (t i : ℕ) → s 0 ≤ t → i ≡ last_le s n t → road_duration period n s d t ≡ from_point period n s d i t
  unfolding road_duration
  road_late t i h e = choose_no _ _ (le-ltb _ _ h) ∙ ap (λ j. from_point period n s d j t) (sym e)

-- the line that second t of the period lies on: that of point i; or, before the first point, that of the last point, a period later
pub data Placed (period n : ℕ) (s d : ℕ → ℕ) (t : ℕ) : Type 0 where
  here : (i : ℕ) → OnLine period n s d i t → road_duration period n s d t ≡ from_point period n s d i t → Placed period n s d t
  early : t < s 0 → OnLine period n s d (n - 1) (t + period) → road_duration period n s d t ≡ from_point period n s d (n - 1) (t + period)
      → Placed period n s d t

module _ (period n : ℕ) (s d : ℕ → ℕ) (P : Points period n s d) where
  placed : (t : ℕ) → t < period → Placed period n s d t
  placed t h = go (dec_lt t (s 0))
    where
      go : Dec (t < s 0) → Placed period n s d t
      go (yes b) =
          early b
          (last_line period n s d P (t + period) (omega (arith, P.in_period (n - 1) (omega (arith, P.some)))) (omega arith))
          (road_early period n s d t b)
      go (no l) =
          here (last_le s n t)
          (point_line period n s d P t (last_le s n t) (omega arith) (last_is_last s n t P.some (omega arith)))
          (road_late period n s d t (last_le s n t) (omega arith) refl)

  -- a road lasts at least a second
  pub road_lasts : (t : ℕ) → t < period → 1 ≤ road_duration period n s d t
  road_lasts t h = go (placed t h)
    where
      low : (i x : ℕ) → OnLine period n s d i x → 1 ≤ from_point period n s d i x
      low i x o = line_least period n s d P i x 1 o (P.lasts i o.point) (right period n s d P i o.point).lasts

      go : Placed period n s d t → 1 ≤ road_duration period n s d t
      go (here i o e) = rw e (low i t o)
      go (early b o e) = rw e (low (n - 1) (t + period) o)

  -- and no longer than the longest duration
  pub road_short : (t : ℕ) → t < period → road_duration period n s d t ≤ longest
  road_short t h = go (placed t h)
    where
      high : (i x : ℕ) → OnLine period n s d i x → from_point period n s d i x ≤ longest
      high i x o = line_most period n s d P i x longest o (P.short i o.point) (right period n s d P i o.point).short

      go : Placed period n s d t → road_duration period n s d t ≤ longest
      go (here i o e) = rw e (high i t o)
      go (early b o e) = rw e (high (n - 1) (t + period) o)

  -- a later second of the period never arrives earlier
  pub road_fifo_day : (t u : ℕ) → t ≤ u → u < period → t + road_duration period n s d t ≤ u + road_duration period n s d u
  road_fifo_day t u l h = go (placed t (omega arith)) (placed u h)
    where
      go : Placed period n s d t → Placed period n s d u → t + road_duration period n s d t ≤ u + road_duration period n s d u
      go (here i o e) (here j q f) = rw (e, f) (lines_fifo period n s d P i j t u o q l)
      go (here i o e) (early b q f) = absurd (omega (arith, rise_far s n P.rise 0 i (omega arith) o.point, o.after))
      go (early a o e) (here j q f) =
          omega (arith, line_over period n s d P (n - 1) (t + period) o, line_from period n s d P j u q)
      go (early a o e) (early b q f) =
          omega (arith, lines_fifo period n s d P (n - 1) (n - 1) (t + period) (u + period) o q (omega arith))

  -- nor does any second of the next period
  pub road_fifo_over : (t u : ℕ) → t < period → u < period → t + road_duration period n s d t ≤ period + u + road_duration period n s d u
  road_fifo_over t u g h = go (placed t g) (placed u h)
    where
      go : Placed period n s d t → Placed period n s d u → t + road_duration period n s d t ≤ period + u + road_duration period n s d u
      go (here i o e) (here j q f) = omega (arith, line_over period n s d P i t o, line_from period n s d P j u q)
      go (here i o e) (early b q f) = omega (arith, lines_fifo period n s d P i (n - 1) t (u + period) o q (omega arith))
      go (early a o e) (here j q f) =
          omega (arith, line_over period n s d P (n - 1) (t + period) o, line_from period n s d P j u q)
      go (early a o e) (early b q f) =
          omega (arith, line_over period n s d P (n - 1) (t + period) o, line_from period n s d P (n - 1) (u + period) q)

  -- a road with one point is a constant
  pub road_one : (t : ℕ) → t < period → n ≡ 1 → road_duration period n s d t ≡ d 0
  road_one t h one = go (placed t h)
    where
      flat : (i x : ℕ) → OnLine period n s d i x → from_point period n s d i x ≡ d 0
      flat i x o =
          let e : d i ≡ d 0 = ap d (omega (arith, o.point)) in
          let r = right_over period n s d i (omega arith) in
          omega (
            arith,
            line_least period n s d P i x (d 0) o (omega arith) (omega arith),
            line_most period n s d P i x (d 0) o (omega arith) (omega arith),
          )

      go : Placed period n s d t → road_duration period n s d t ≡ d 0
      go (here i o e) = e ∙ flat i t o
      go (early b o e) = e ∙ flat (n - 1) (t + period) o
