use Rattle.std.proofs.Common.{ℕ, ◌≡◌, sym, ◌∙◌, arith}
use Rattle.block.specs.Choose.{both, both_yes, both_no}
use Rattle.block.specs.First.{all_below}
use Rattle.records.specs.Format.{Volume, volume_of, Counted, IsRoad}
use Rattle.records.specs.declared.tables.Counts.{Counts}
use Rattle.records.specs.declared.tables.Road.{Road}
use Rattle.rules.specs.Rules.{ends_fit, placed, begins, point_rule, road_rule}
use Rattle.rules.specs.RoadSteps.{road_rule_lem}
use Rattle.rules.specs.Facts.{placed_fact}
use Rattle.rules.proofs.roads.road_fits.Goals as goal

-- the rule of a road, by what is read of it and of the head
rule : (vol : Volume) (c : Counts) (k begin : ℕ) (q : Road) → Counted vol c → IsRoad vol k q → begin ≡ begins vol.road_first vol.road_points k
    → road_rule vol k
    ≡ both (ends_fit c.junctions q.from q.to) (both (placed begin c.points q.first q.points) (all_below q.points (point_rule vol q.first q.points)))
rule vol c k begin q n i h =
    rw (n.junctions, n.points) (road_rule_lem vol k q.from q.to q.first q.points begin i.from i.to i.first i.points h)

pub points_fit-requires : goal.points_fit-requires
points_fit-requires c =
    let q = placed_fact _ _ _ _ (sym c.is_placed.ensures ∙ c.if-is_placed.true) in
    let road = c.road-road.ensures in
    (q.some, omega (arith, c.args.r.now.counted.points), road.first_fits, road.points_fit)

pub returns-then-is_placed : goal.returns-then-is_placed
returns-then-is_placed c =
    let r = c.args.r.now in
    c.points_fit.ensures
    ∙ sym
    (rule (volume_of r.bytes.now) r.counts c.args.k c.args.begin _ r.counted c.road-road.ensures c.requires.begin_value
    ∙ both_yes _ (cc)
    ∙ both_yes _ (cc))

pub returns-else-is_placed : goal.returns-else-is_placed
returns-else-is_placed c =
    let r = c.args.r.now in
    c.if-is_placed.false
    ∙ sym
    (rule (volume_of r.bytes.now) r.counts c.args.k c.args.begin _ r.counted c.road-road.ensures c.requires.begin_value
    ∙ both_yes _ (cc)
    ∙ both_no _ (cc))

pub returns-else-ends_fit : goal.returns-else-ends_fit
returns-else-ends_fit c =
    let r = c.args.r.now in
    c.if-ends_fit.false
    ∙ sym
    (rule (volume_of r.bytes.now) r.counts c.args.k c.args.begin _ r.counted c.road-road.ensures c.requires.begin_value
    ∙ both_no _ (cc))
