-- What the pass over the roads learns from the words that it reads: of a point before the next one, and of a road.
use Rattle.std.specs.Prelude.{ℕ, ◌+◌, ◌≡◌}
use Rattle.block.specs.Choose.{both}
use Rattle.block.specs.First.{all_below}
use Rattle.records.specs.Format.{Volume, day}
use Rattle.rules.specs.Rules.{ends_fit, placed, begins, point_fits, next_second, next_duration, point_rule, road_rule}

-- what the pass over a road's points asks of point i, from it and the point after it, (t₁, f₁)
pub point_rule_lem : (vol : Volume) (first n i t f t₁ f₁ : ℕ) → vol.period ≡ day → t ≡ vol.point_second (first + i)
    → f ≡ vol.point_duration (first + i) → t₁ ≡ next_second vol first n i → f₁ ≡ next_duration vol first n i
    → point_rule vol first n i ≡ point_fits day t f t₁ f₁
unfolding point_rule
point_rule_lem vol first n i t f t₁ f₁ p e g a b = (cc)

-- what the pass asks of a road, from the words that it reads
pub road_rule_lem : (vol : Volume) (k from to first n begin : ℕ) → from ≡ vol.road_from k → to ≡ vol.road_to k → first ≡ vol.road_first k
    → n ≡ vol.road_points k → begin ≡ begins vol.road_first vol.road_points k
    → road_rule vol k
    ≡ both (ends_fit vol.junctions from to) (both (placed begin vol.points first n) (all_below n (point_rule vol first n)))
unfolding road_rule
road_rule_lem vol k from to first n begin a b d e g = (cc)
