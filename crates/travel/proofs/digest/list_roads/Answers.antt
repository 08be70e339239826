use Rattle.std.proofs.Common.{ℕ, ◌-◌, refl, ◌∙◌, ap, length, length-set}
use Rattle.records.specs.Format.{volume_of}
use Rattle.travel.specs.Digest.{steady_of, steady_back, listed_none, listed_more}
use Rattle.travel.proofs.digest.list_roads.Goals as goal

pub loop-i-init : goal.loop-i-init
loop-i-init c =
    let r = c.args.opened.now.records in
    let d = c.args.digest.now in
    (listed_none (length d - r.counts.roads) (steady_back (volume_of r.bytes.now)) d, refl)

pub loop-i-preserved : goal.loop-i-preserved
loop-i-preserved c =
    let r = c.args.opened.now.records in
    let vol = volume_of r.bytes.now in
    let i = c.loop-i.i in
    let road = c.steady.ensures.0 ∙ ap (λ (n : ℕ). steady_of vol (n - 1 - i)) r.counted.roads in (
      listed_more (length c.args.digest.now - r.counts.roads) (steady_back vol) i c.args.digest.now c.loop-i.digest _ c.loop-i.invariant.0 road,
      length-set c.loop-i.digest _ _ ∙ c.loop-i.invariant.1,
    )
