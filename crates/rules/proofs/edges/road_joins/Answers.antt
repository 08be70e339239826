use Rattle.std.proofs.Common.{ℕ, ap, sym, ◌∙◌, arith, eqb, eq-eqb, ne_eqb, lt-ltb, le-ltb}
use Rattle.block.specs.Choose.{both_yes, both_no}
use Rattle.records.specs.Format.{volume_of}
use Rattle.rules.specs.Rules.{road_joins}
use Rattle.rules.proofs.edges.road_joins.Goals as goal

pub returns-then-r-k : goal.returns-then-r-k
unfolding road_joins
returns-then-r-k c =
    let r = c.args.r.now in
    sym (both_no _ (le-ltb c.args.k (volume_of r.bytes.now).roads (omega (arith, r.counted.roads))))

pub returns-then-road-over : goal.returns-then-road-over
unfolding road_joins
returns-then-road-over c =
    let r = c.args.r.now in
    let road = c.road-road.ensures in
    sym
    (both_yes _ (lt-ltb c.args.k (volume_of r.bytes.now).roads (omega (arith, r.counted.roads)))
    ∙ both_yes _ (eq-eqb _ _ (sym road.from ∙ c.if-road-over.true))
    ∙ ap (λ (j : ℕ). eqb j c.args.over.to) (sym road.to))

pub returns-else-road-over : goal.returns-else-road-over
unfolding road_joins
returns-else-road-over c =
    let r = c.args.r.now in
    let road = c.road-road.ensures in
    ne_eqb _ _ c.if-road-over.false
    ∙ sym
    (both_yes _ (lt-ltb c.args.k (volume_of r.bytes.now).roads (omega (arith, r.counted.roads)))
    ∙ both_no _ (ne_eqb _ _ (λ z. c.if-road-over.false (road.from ∙ z))))
