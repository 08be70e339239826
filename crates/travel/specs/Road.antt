-- How long a road takes, from its points: document 01, "Travel time". The fraction here has one denominator and no sign;
-- proofs/Wording shows it equal to the document's. Everything above uses the laws of RoadLaws and never opens these definitions.
use Rattle.std.specs.Prelude.{ℕ, ◌+◌, ◌-◌, ◌*◌, ◌/◌, ltb}
use Rattle.block.specs.Choose.{choose}
use Rattle.travel.specs.Last.{last_le}

-- between the points (t₀, f₀) and (t₁, f₁), at second x
unfoldable pub between : ℕ → ℕ → ℕ → ℕ → ℕ → ℕ
between t₀ f₀ t₁ f₁ x = (f₀ * (t₁ - x) + f₁ * (x - t₀)) / (t₁ - t₀)

-- n points with seconds s and durations d, in a period
module _ (period n : ℕ) (s d : ℕ → ℕ) where
  -- the right neighbour of point i: the next point, or after the last the first of the next period
  unfoldable pub right_second : ℕ → ℕ
  right_second i = choose (ltb (i + 1) n) (s (i + 1)) (s 0 + period)

  unfoldable pub right_duration : ℕ → ℕ
  right_duration i = choose (ltb (i + 1) n) (d (i + 1)) (d 0)

  -- the duration at second x between point i and its right neighbour
  unfoldable pub from_point : ℕ → ℕ → ℕ
  from_point i x = between (s i) (d i) (right_second i) (right_duration i) x

  -- the duration at second t of the period: from the last point at or before t. Before the first point the last point of the
  -- period before is the left neighbour: the road at t is the road at t + period, seen from that period.
  unfoldable pub road_duration : ℕ → ℕ
  road_duration t = choose (ltb t (s 0)) (from_point (n - 1) (t + period)) (from_point (last_le s n t) t)
