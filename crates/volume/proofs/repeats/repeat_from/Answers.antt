use mathlib.Core.Path.{refl, sym, ◌∙◌}
use native.Mathlib.Omega.{arith}
use Rattle.volume.specs.Repeats.{walk_first, walk_meets, walk_goes, walk_finds, stamps_found}
use Rattle.records.specs.Index.{found_place, found_within, walk_on}
use Rattle.records.specs.Format.{volume_of}
use Rattle.volume.proofs.repeats.repeat_from.Goals as goal

pub loop-at-init : goal.loop-at-init
loop-at-init c =
    let a = c.args in
    let vol = volume_of a.index.now.records.bytes.now in
    let found = c.first-at.ensures in
    (found_within _ _ _ found, walk_first vol a.index.now.records.counts.junctions a.u _ a.stamps.now (found_place _ _ _ found) c.requires.stamped, refl)

pub returns-then-stamp_on-clause-least_below_2 : goal.returns-then-stamp_on-clause-least_below_2
returns-then-stamp_on-clause-least_below_2 c =
    let a = c.args in
    let vol = volume_of a.index.now.records.bytes.now in
    let L = c.requires.least_below in
    let at = rw c.in-Some.is at c.loop-at.invariant in
    let stamped = c.stamp_on.ensures in
    let e = c.in-Some.e in
    let to = c.edge in
    let meets = walk_meets vol a.index.now.records.counts.junctions a.u e c.loop-at.stamps at.1 at.0 to.result.to to.ensures.to (sym stamped.0 ∙ c.if-stamp_on.true) in
    walk_finds vol a.index.now.records.counts.junctions a.u a.least e c.loop-at.stamps (omega arith) L at.1 (omega arith) meets

pub returns-then-stamp_on-clause-stamped_2 : goal.returns-then-stamp_on-clause-stamped_2
returns-then-stamp_on-clause-stamped_2 c =
    let a = c.args in
    let vol = volume_of a.index.now.records.bytes.now in
    let L = c.requires.least_below in
    let at = rw c.in-Some.is at c.loop-at.invariant in
    let stamped = c.stamp_on.ensures in
    let e = c.in-Some.e in
    let to = c.edge in
    stamps_found vol a.index.now.records.counts.junctions a.u a.least e c.loop-at.stamps (omega arith) L at.1 to.result.to c.stamp_on.new.stamps stamped.1

pub loop-at-smaller : goal.loop-at-smaller
loop-at-smaller c =
    let vol = volume_of c.args.index.now.records.bytes.now in
    let at = rw c.in-Some.is at c.loop-at.invariant in
    let on = walk_on vol c.args.u c.in-Some.e c.next-at.result at.0 (at.1.begins_there at.0) c.next-at.ensures in
    rw c.in-Some.is on.nearer

pub loop-at-preserved : goal.loop-at-preserved
loop-at-preserved c =
    let a = c.args in
    let vol = volume_of a.index.now.records.bytes.now in
    let e = c.in-Some.e in
    let at = rw c.in-Some.is at c.loop-at.invariant in
    let on = walk_on vol a.u e c.next-at.result at.0 (at.1.begins_there at.0) c.next-at.ensures in
    let stamped = c.stamp_on in
    let to = c.edge in (
      on.within,
      walk_goes vol a.index.now.records.counts.junctions a.u e c.loop-at.stamps at.1 at.0 to.result.to _ stamped.new.stamps to.ensures.to (sym stamped.ensures.0 ∙ c.if-stamp_on.false) stamped.ensures.1 on.place,
      omega (arith, stamped.auto.stamps, at.2),
    )
