use mathlib.Core.Path.{sym, ◌∙◌, ap}
use Rattle.records.specs.Format.{volume_of}
use Rattle.travel.specs.Digest.{steady_one, steady_none}
use borrow.Author.Rules.{rules}
use Rattle.travel.proofs.digest.steady.Goals as goal

pub returns-then-road-eq1 : goal.returns-then-road-eq1
returns-then-road-eq1 c =
    let vol = volume_of c.args.opened.now.records.bytes.now in
    let road = c.road-road.ensures in
    let one = sym road.points ∙ c.if-road-eq1.true in
    let P = c.point.ensures in (
      P.duration ∙ ap vol.point_duration road.first ∙ sym (steady_one vol c.args.k one),
      P.duration_fits,
    )

pub returns : goal.returns
returns c =
    let vol = volume_of c.args.opened.now.records.bytes.now in
    let n = c.road-road.ensures.points in
    (sym (steady_none vol c.args.k (λ z. c.if-road-eq1.false (n ∙ z))), search rules)
