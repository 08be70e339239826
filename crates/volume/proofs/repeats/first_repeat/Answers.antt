use Rattle.std.proofs.Common.{◌≡◌, refl, ◌∙◌, arith}
use Rattle.records.specs.Format.{volume_of}
use Rattle.volume.specs.Repeats.{least_none}
use Rattle.volume.proofs.repeats.first_repeat.Goals as goal

pub loop-u-init : goal.loop-u-init
loop-u-init c =
    let r = c.args.index.now.records in
    (least_none (volume_of r.bytes.now) _ r.counted.edges, c.requires.stamped, refl)

pub repeat_from-least-requires-clause-stamped : goal.repeat_from-least-requires-clause-stamped
repeat_from-least-requires-clause-stamped c = c.loop-u.invariant.1

pub repeat_from-least-requires-clause-least_below : goal.repeat_from-least-requires-clause-least_below
repeat_from-least-requires-clause-least_below c = c.loop-u.invariant.0

pub loop-u-preserved : goal.loop-u-preserved
loop-u-preserved c =
    let f = c.repeat_from-least in
    (f.ensures.least_below_2, f.ensures.stamped_2, f.auto.stamps ∙ c.loop-u.invariant.2)

pub returns-clause-first_repeat : goal.returns-clause-first_repeat
returns-clause-first_repeat c =
    let r = c.args.index.now.records in
    let end : c.loop-u.u ≡ (volume_of r.bytes.now).junctions = omega (arith, r.counted.junctions) in
    rw end at c.loop-u.invariant.0

pub returns-clause-stamped_2 : goal.returns-clause-stamped_2
returns-clause-stamped_2 c =
    let end : c.loop-u.u ≡ c.args.index.now.records.counts.junctions = omega arith in rw end at c.loop-u.invariant.1
