-- The n points of a volume from point `first` on, as the code of a road sees them once it has read where the road's points begin. What
-- the code asks and gets at each of its lines is here, over plain numbers.
use Rattle.std.specs.Prelude.{ℕ, ◌+◌, ◌-◌, ◌%◌, ◌≤◌, ◌<◌, ◌≡◌}
use Rattle.std.proofs.Common.{ap, sym, ◌∙◌, arith, mod-lt}
use Rattle.records.specs.Format.{Volume}
use Rattle.rules.specs.Rules.{longest}
use Rattle.volume.specs.Sound.{Points, Sound}
use Rattle.travel.specs.Last.{last_le, last_is_last}
use Rattle.travel.specs.Road.{between, from_point, road_duration}
use Rattle.travel.specs.Lines.{OnLine, right_next, right_over, last_line, point_line}
use Rattle.travel.specs.RoadLaws.{road_early, road_late, road_one}
use Rattle.travel.specs.Network.{duration_at, road_time, duration_of}

module _ (vol : Volume) (first : ℕ) where
  -- second and duration of the point i places after the first
  abbrev pub second_from : ℕ → ℕ
  second_from i = vol.point_second (first + i)

  abbrev pub duration_from : ℕ → ℕ
  duration_from i = vol.point_duration (first + i)

  -- the n points are in the table, and sound
  pub record PointsFrom (n : ℕ) : Type 0 where
    pub inside : first + n ≤ vol.points
    pub points : Points vol.period n second_from duration_from

  -- second x lies on the line from point i
  abbrev pub LineFrom : ℕ → ℕ → ℕ → Type 0
  LineFrom n i x = OnLine vol.period n second_from duration_from i x

  -- the duration there
  abbrev pub duration_on : ℕ → ℕ → ℕ → ℕ
  duration_on n i x = from_point vol.period n second_from duration_from i x

-- what the code asks of two points (t₀, f₀) and (t₁, f₁) and of a second x between them
pub record Ends (t₀ f₀ t₁ f₁ x : ℕ) : Type 0 where
  pub after : t₀ ≤ x
  pub before : x < t₁
  pub from_short : f₀ ≤ longest
  pub to_short : f₁ ≤ longest

-- from point i to its right neighbour
module _ (vol : Volume) (first n i x t₀ f₀ t₁ f₁ : ℕ) (Q : PointsFrom vol first n) (o : LineFrom vol first n i x)
    (e₀ : t₀ ≡ vol.point_second (first + i)) (g₀ : f₀ ≡ vol.point_duration (first + i)) where
  module _ (h : i + 1 < n) (e₁ : t₁ ≡ vol.point_second (first + i + 1)) (g₁ : f₁ ≡ vol.point_duration (first + i + 1)) where
    next : (t₁ ≡ second_from vol first (i + 1)) × (f₁ ≡ duration_from vol first (i + 1))
    next =
        let z : first + i + 1 ≡ first + (i + 1) = omega arith in
        (e₁ ∙ ap vol.point_second z, g₁ ∙ ap vol.point_duration z)

    pub next_ends : Ends t₀ f₀ t₁ f₁ x
    next_ends =
        let q = right_next vol.period n (second_from vol first) (duration_from vol first) i h in
        let k = next in
        record {
          after = omega (arith, o.after);
          before = omega (arith, o.before);
          from_short = omega (arith, Q.points.short i o.point);
          to_short = omega (arith, Q.points.short (i + 1) h);
        }

    pub next_is : (r : ℕ) → r ≡ between t₀ f₀ t₁ f₁ x → r ≡ duration_on vol first n i x
    unfolding from_point
    next_is r y =
        let q = right_next vol.period n (second_from vol first) (duration_from vol first) i h in
        let k = next in
        y ∙ rw (e₀, g₀, k.0, k.1, q.0, q.1)

  module _ (h : n ≤ i + 1) (e₁ : t₁ ≡ vol.point_second first + vol.period) (g₁ : f₁ ≡ vol.point_duration first) where
    over : (t₁ ≡ second_from vol first 0 + vol.period) × (f₁ ≡ duration_from vol first 0)
    over =
        let z : first ≡ first + 0 = omega arith in
        (e₁ ∙ ap (λ (j : ℕ). vol.point_second j + vol.period) z, g₁ ∙ ap vol.point_duration z)

    pub over_ends : Ends t₀ f₀ t₁ f₁ x
    over_ends =
        let q = right_over vol.period n (second_from vol first) (duration_from vol first) i h in
        let k = over in
        record {
          after = omega (arith, o.after);
          before = omega (arith, o.before);
          from_short = omega (arith, Q.points.short i o.point);
          to_short = omega (arith, Q.points.short 0 Q.points.some);
        }

    pub over_is : (r : ℕ) → r ≡ between t₀ f₀ t₁ f₁ x → r ≡ duration_on vol first n i x
    unfolding from_point
    over_is r y =
        let q = right_over vol.period n (second_from vol first) (duration_from vol first) i h in
        let k = over in
        y ∙ rw (e₀, g₀, k.0, k.1, q.0, q.1)

-- road k has n points, from point `first` on
pub record OfRoad (vol : Volume) (k first n : ℕ) : Type 0 where
  pub sound : Sound vol
  pub there : k < vol.roads
  pub begins : first ≡ vol.road_first k
  pub number : n ≡ vol.road_points k

pub of_road_lem : {vol : Volume} {k first n : ℕ} → Sound vol → k < vol.roads → first ≡ vol.road_first k
    → n ≡ vol.road_points k → OfRoad vol k first n
of_road_lem s h b c = record { sound = s; there = h; begins = b; number = c }

module _ {vol : Volume} {k first n : ℕ} (R : OfRoad vol k first n) where
  pub points_from : PointsFrom vol first n
  points_from =
      let road = R.sound.road k R.there in
      rw (R.begins, R.number) (record { inside = road.inside; points = road.points })

  at_first : second_from vol first 0 ≡ vol.point_second first
  at_first = ap vol.point_second (let z : first + 0 ≡ first = omega arith in z)

  -- entered at x, which is second t of the period
  module _ (x t : ℕ) (m : t ≡ x % vol.period) where
    in_period : t < vol.period
    in_period = rw m (mod-lt x R.sound.period)

    -- the road's duration is that of these points
    duration_from_lem : road_time vol k x ≡ road_duration vol.period n (second_from vol first) (duration_from vol first) t
    unfolding duration_at
    duration_from_lem = rw (R.begins, R.number, m) (duration_of vol k (x % vol.period))

    -- one point
    pub one_is : (r : ℕ) → n ≡ 1 → r ≡ vol.point_duration first → r ≡ road_time vol k x
    one_is r e q =
        q
        ∙ ap vol.point_duration (let z : first ≡ first + 0 = omega arith in z)
        ∙ sym (duration_from_lem ∙ road_one vol.period n (second_from vol first) (duration_from vol first) points_from.points t in_period e)

    -- before the first point, at u, a period later
    module _ (u : ℕ) (b : t < vol.point_second first) (e : u ≡ t + vol.period) where
      pub early_line : LineFrom vol first n (n - 1) u
      early_line =
          let P = points_from.points in
          let q = at_first in
          last_line vol.period n (second_from vol first) (duration_from vol first) P u
          (omega (arith, P.in_period (n - 1) (omega (arith, P.some)))) (omega arith)

      pub early_is : (r : ℕ) → r ≡ duration_on vol first n (n - 1) u → r ≡ road_time vol k x
      early_is r q =
          q
          ∙ ap (duration_on vol first n (n - 1)) e
          ∙ sym (duration_from_lem ∙ road_early vol.period n (second_from vol first) (duration_from vol first) t (omega (arith, at_first)))

    -- from the first point on
    module _ (i : ℕ) (b : vol.point_second first ≤ t) (e : i ≡ last_le (second_from vol first) n t) where
      pub late_line : LineFrom vol first n i t
      late_line =
          let P = points_from.points in
          rw e
          (point_line vol.period n (second_from vol first) (duration_from vol first) P t (last_le (second_from vol first) n t)
          (omega (arith, in_period)) (last_is_last (second_from vol first) n t P.some (omega (arith, at_first))))

      pub late_is : (r : ℕ) → r ≡ duration_on vol first n i t → r ≡ road_time vol k x
      late_is r q =
          q
          ∙ sym (duration_from_lem ∙ road_late vol.period n (second_from vol first) (duration_from vol first) t i (omega (arith, at_first)) e)
