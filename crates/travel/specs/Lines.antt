-- The lines of a road, each from a point to its right neighbour, on sound points and over any period: no later second of one line
-- arrives earlier, nor does a later line. The laws of a road's duration, by the second of the period, are in RoadLaws.
use Rattle.std.specs.Prelude.{ℕ, zero, suc, ◌+◌, ◌-◌, ◌≤◌, ◌<◌, ◌≡◌}
use Rattle.std.proofs.Common.{⊎_elim, lt-ltb, le-ltb, eq-or-lt_of_le}
use Rattle.std.proofs.Math.Decide.{dec_lt}
use native.Mathlib.Omega.{arith}
use Rattle.block.specs.Choose.{choose_yes, choose_no}
use Rattle.rules.specs.Rules.{longest}
use Rattle.volume.specs.Sound.{Points}
use Rattle.travel.specs.Last.{IsLast, rise_far}
use Rattle.travel.specs.Road.{right_second, right_duration, from_point}
use Rattle.travel.specs.Between.{between_start, between_end, between_least, between_most, between_fifo}

-- second x lies on the line from point i to its right neighbour
pub record OnLine (period n : ℕ) (s d : ℕ → ℕ) (i x : ℕ) : Type 0 where
  pub point : i < n
  pub after : s i ≤ x
  pub before : x < right_second period n s d i

module _ (period n : ℕ) (s d : ℕ → ℕ) where
  -- the right neighbour of a point before the last, and of the last
  pub right_next : (i : ℕ) → i + 1 < n → (right_second period n s d i ≡ s (i + 1)) × (right_duration period n s d i ≡ d (i + 1))
  unfolding right_second right_duration
  right_next i h = (choose_yes _ _ (lt-ltb _ _ h), choose_yes _ _ (lt-ltb _ _ h))

  pub right_over : (i : ℕ) → n ≤ i + 1 → (right_second period n s d i ≡ s 0 + period) × (right_duration period n s d i ≡ d 0)
  unfolding right_second right_duration
  right_over i h = (choose_no _ _ (le-ltb _ _ h), choose_no _ _ (le-ltb _ _ h))

module _ (period n : ℕ) (s d : ℕ → ℕ) (P : Points period n s d) where
  -- the right neighbour comes later, lasts as durations do, and the duration falls to it by no more than the seconds between
  pub record Right (i : ℕ) : Type 0 where
    pub later : s i < right_second period n s d i
    pub lasts : 1 ≤ right_duration period n s d i
    pub short : right_duration period n s d i ≤ longest
    pub fall : d i ≤ right_duration period n s d i + (right_second period n s d i - s i)

  pub right : (i : ℕ) → i < n → Right i
  right i h = go (dec_lt (i + 1) n)
    where
      go : Dec (i + 1 < n) → Right i
      go (yes l) =
          let e = right_next period n s d i l in
          let p = P.rise i l in
          let q = P.fall i l in
          record {
            later = omega arith;
            lasts = omega (arith, P.lasts (i + 1) l);
            short = omega (arith, P.short (i + 1) l);
            fall = rw (e.0, e.1) q;
          }
      go (no g) =
          let e = right_over period n s d i (omega arith) in
          let z : n - 1 ≡ i = omega arith in
          let q = rw z at P.fall_over in
          record {
            later = omega (arith, P.in_period i h);
            lasts = omega (arith, P.lasts 0 P.some);
            short = omega (arith, P.short 0 P.some);
            fall = rw (e.0, e.1) q;
          }

  -- on one line

  -- no less than a bound below both durations, and no more than one above both
  pub line_least : (i x m : ℕ) → OnLine period n s d i x → m ≤ d i → m ≤ right_duration period n s d i → m ≤ from_point period n s d i x
  unfolding from_point
  line_least i x m o =
      between_least (s i) (d i) (right_second period n s d i) (right_duration period n s d i) (right i o.point).later m x
      o.after (omega (arith, o.before))

  pub line_most : (i x m : ℕ) → OnLine period n s d i x → d i ≤ m → right_duration period n s d i ≤ m → from_point period n s d i x ≤ m
  unfolding from_point
  line_most i x m o =
      between_most (s i) (d i) (right_second period n s d i) (right_duration period n s d i) (right i o.point).later m x
      o.after (omega (arith, o.before))

  -- a later second never arrives earlier
  line_fifo : (i x y : ℕ) → OnLine period n s d i x → x ≤ y → y ≤ right_second period n s d i
      → x + from_point period n s d i x ≤ y + from_point period n s d i y
  unfolding from_point
  line_fifo i x y o l b =
      let r = right i o.point in
      between_fifo (s i) (d i) (right_second period n s d i) (right_duration period n s d i) r.later x y o.after l b r.fall

  -- no arrival is before the point's own, and none after the right neighbour's
  line_low : (i x : ℕ) → OnLine period n s d i x → s i + d i ≤ x + from_point period n s d i x
  unfolding from_point
  line_low i x o =
      let r = right i o.point in
      let start : OnLine period n s d i (s i) = record { point = o.point; after = omega arith; before = r.later } in
      omega (
        arith,
        between_start (s i) (d i) (right_second period n s d i) (right_duration period n s d i) r.later,
        line_fifo i (s i) x start o.after (omega (arith, o.before)),
      )

  line_high : (i x : ℕ) → OnLine period n s d i x → x + from_point period n s d i x ≤ right_second period n s d i + right_duration period n s d i
  unfolding from_point
  line_high i x o =
      let r = right i o.point in
      omega (
        arith,
        between_end (s i) (d i) (right_second period n s d i) (right_duration period n s d i) r.later,
        line_fifo i x (right_second period n s d i) o (omega (arith, o.before)) (omega arith),
      )

  -- from point to point

  points_fifo : (i j : ℕ) → i ≤ j → j < n → s i + d i ≤ s j + d j
  points_fifo i zero a b = let e : i ≡ 0 = omega arith in rw e (omega arith)
  points_fifo i (suc j) a b =
      ⊎_elim
      (λ e. rw e (omega arith))
      (λ h.
      let z : j + 1 ≡ suc j = omega arith in
      let p : s j < s (suc j) = rw z at (P.rise j (omega arith)) in
      let q : d j ≤ d (suc j) + (s (suc j) - s j) = rw z at (P.fall j (omega arith)) in
      omega (arith, points_fifo i j (omega arith) (omega arith)))
      (eq-or-lt_of_le a)

  -- to the first point of the next period
  points_over : (i : ℕ) → i < n → s i + d i ≤ s 0 + period + d 0
  points_over i h =
      let q = P.fall_over in
      omega (arith, points_fifo i (n - 1) (omega arith) (omega arith), P.in_period (n - 1) (omega arith))

  -- over lines

  pub lines_fifo : (i j x y : ℕ) → OnLine period n s d i x → OnLine period n s d j y → x ≤ y
      → x + from_point period n s d i x ≤ y + from_point period n s d j y
  lines_fifo i j x y o q l = go (dec_lt i j) (dec_lt j i)
    where
      go : Dec (i < j) → Dec (j < i) → x + from_point period n s d i x ≤ y + from_point period n s d j y
      go (yes a) b =
          let e = right_next period n s d i (omega (arith, q.point)) in
          omega (arith, line_high i x o, points_fifo (i + 1) j (omega arith) q.point, line_low j y q)
      go (no a) (yes b) =
          let e = right_next period n s d j (omega (arith, o.point)) in
          absurd (omega (arith, rise_far s n P.rise (j + 1) i (omega arith) o.point, o.after, q.before))
      go (no a) (no b) =
          let e : j ≡ i = omega arith in
          let z = rw e at q.before in
          rw e (line_fifo i x y o l (omega arith))

  -- no line arrives after the first point of the next period
  pub line_over : (i x : ℕ) → OnLine period n s d i x → x + from_point period n s d i x ≤ s 0 + period + d 0
  line_over i x o = go (dec_lt (i + 1) n)
    where
      go : Dec (i + 1 < n) → x + from_point period n s d i x ≤ s 0 + period + d 0
      go (yes l) =
          let e = right_next period n s d i l in
          omega (arith, line_high i x o, points_over (i + 1) l)
      go (no g) =
          let e = right_over period n s d i (omega arith) in
          omega (arith, line_high i x o)

  -- none before the first point
  pub line_from : (i x : ℕ) → OnLine period n s d i x → s 0 + d 0 ≤ x + from_point period n s d i x
  line_from i x o = omega (arith, line_low i x o, points_fifo 0 i (omega arith) o.point)

  -- which line a second lies on

  -- the last point's line reaches to the first point of the next period
  pub last_line : (x : ℕ) → s (n - 1) ≤ x → x < s 0 + period → OnLine period n s d (n - 1) x
  last_line x a b =
      let h = P.some in
      let e = right_over period n s d (n - 1) (omega arith) in
      record { point = omega arith; after = a; before = omega arith }

  -- the line of the last point at or before x
  pub point_line : (x i : ℕ) → x < s 0 + period → IsLast s n x i → OnLine period n s d i x
  point_line x i b l = record { point = l.below; after = l.le; before = go (dec_lt (i + 1) n) }
    where
      go : Dec (i + 1 < n) → x < right_second period n s d i
      go (yes h) = let e = right_next period n s d i h in omega (arith, l.above (i + 1) (omega arith) h)
      go (no g) = let e = right_over period n s d i (omega arith) in omega arith
