use Rattle.std.proofs.Common.{◌≡◌, ◌+◌, refl, sym, ◌∙◌, arith}
use Rattle.std.proofs.Math.Path.{ap₂}
use Rattle.block.specs.declared.refusal.Refusal.TheVariants.{Road}
use Rattle.block.specs.First.{first_start, first_go}
use Rattle.records.specs.Format.{volume_of}
use Rattle.rules.specs.Facts.{begins_next}
use Rattle.rules.specs.Rules.{road_rule, begins}
use Rattle.volume.specs.Passes.{pass_fault, pass_over_lem, pass_fine}
use Rattle.volume.proofs.road_pass.roads_pass.Goals as goal

pub loop-k-init : goal.loop-k-init
unfolding begins
loop-k-init c = (first_start _ _, refl)

pub returns-then-not-road_fits : goal.returns-then-not-road_fits
returns-then-not-road_fits c =
    let r = c.args.r.now in
    let vol = volume_of r.bytes.now in
    let bad = sym c.road_fits.ensures ∙ c.if-not-road_fits.true in
    sym (pass_fault Road (road_rule vol) vol.road_first vol.road_points vol.roads vol.points c.loop-k.k (omega (arith, r.counted.roads)) bad c.loop-k.invariant.0)

pub loop-k-preserved : goal.loop-k-preserved
loop-k-preserved c =
    let r = c.args.r.now in
    let vol = volume_of r.bytes.now in
    let road = c.road-road.ensures in
    let fine = sym c.road_fits.ensures ∙ c.if-not-road_fits.false in (
      first_go (road_rule vol) vol.roads c.loop-k.k (omega (arith, r.counted.roads)) fine c.loop-k.invariant.0,
      ap₂ ◌+◌ road.first road.points ∙ sym (begins_next vol.road_first vol.road_points c.loop-k.k),
    )

pub returns-then-begin-r : goal.returns-then-begin-r
returns-then-begin-r c =
    let r = c.args.r.now in
    let vol = volume_of r.bytes.now in
    let end : c.loop-k.k ≡ r.counts.roads = omega arith in
    let h = rw end at c.loop-k.invariant in
    sym (pass_over_lem Road (road_rule vol) vol.road_first vol.road_points vol.roads vol.points r.counts.roads c.loop-k.begin
    (omega (arith, r.counted.roads)) (omega (arith, r.counted.roads)) h.0 h.1 (λ z. c.if-begin-r.true (z ∙ sym r.counted.points)))

pub returns : goal.returns
returns c =
    let r = c.args.r.now in
    let vol = volume_of r.bytes.now in
    let end : c.loop-k.k ≡ r.counts.roads = omega arith in
    let h = rw end at c.loop-k.invariant in
    sym (pass_fine Road (road_rule vol) vol.road_first vol.road_points vol.roads vol.points r.counts.roads c.loop-k.begin
    (omega (arith, r.counted.roads)) (omega (arith, r.counted.roads)) h.0 h.1 (c.if-begin-r.false ∙ r.counted.points))
