use Prim.Native.Nat.{ℕ, ◌+◌}
use mathlib.Core.Path.{◌≡◌, sym, ◌∙◌, ap}
use mathlib.Core.Bool.{false}
use native.Mathlib.Omega.{arith}
use borrow.Author.Count.{below_more}
use Rattle.settle.specs.Edges.{on_walk, walk_none}
use Rattle.settle.specs.Marked.{falls, falls_away, falls_high, falls_unmarked, mark_destination, mark_above, mark_missing}
use Rattle.travel.specs.Network.{network_of}
use Rattle.records.specs.Index.{found_place, found_within, walk_on}
use Rattle.records.specs.Format.{volume_of}
use Rattle.theory.specs.Marks.{marked}
use Rattle.settle.proofs.marks.mark_of.Goals as goal
use Rattle.settle.proofs.marks.mark_of.Goals.{else-w-u-via-then-w-u+else-marks-w, else-w-u-via-else-w-u}

pub returns-then-u-to : goal.returns-then-u-to
returns-then-u-to c =
    let a = c.args in
    mark_destination (volume_of a.index.now.records.bytes.now) a.to a.u c.if-u-to.true

pub loop-at-init : goal.loop-at-init
loop-at-init c =
    let vol = volume_of c.args.index.now.records.bytes.now in
    let u = c.args.u in
    let found = c.first-at.ensures in
    let is = found_place _ _ _ found in (
      found_within _ _ _ found,
      on_walk vol u 0 _ (omega arith) is,
      walk_none vol u 0 _ (falls vol c.args.to u) (omega arith) is (falls_away vol c.args.to u) (λ j h. absurd (omega arith)),
    )

pub returns-then-marks-w : goal.returns-then-marks-w
returns-then-marks-w c =
    let vol = volume_of c.args.index.now.records.bytes.now in
    let to = c.edge-w.ensures.to in
    let at = rw c.in-Some.is at c.loop-at.invariant in
    let below = c.if-w-u.true in
    mark_above vol c.args.to c.args.u c.in-Some.e at.0 (at.1.begins at.0) (omega arith)
    (sym (ap (marked (network_of vol) c.args.to) to) ∙ sym (c.requires.marks_below _ below) ∙ c.if-marks-w.true)

pub loop-at-smaller : goal.loop-at-smaller
loop-at-smaller c =
    let vol = volume_of c.args.index.now.records.bytes.now in
    let at = rw c.in-Some.is at c.loop-at.invariant in
    let on = walk_on vol c.args.u c.in-Some.e _ at.0 (at.1.begins at.0) c.next-at.ensures in
    rw c.in-Some.is on.nearer

pub loop-at-preserved : goal.loop-at-preserved
loop-at-preserved c =
    let vol = volume_of c.args.index.now.records.bytes.now in
    let d = c.args.to in
    let u = c.args.u in
    let e = c.in-Some.e in
    let at = rw c.in-Some.is at c.loop-at.invariant in
    let from = at.1.begins at.0 in
    let to = c.edge-w.ensures.to in
    let on = walk_on vol u e _ at.0 from c.next-at.ensures in
    let here : falls vol d u e ≡ false = elim c.else-w-u.branch [
      | else-w-u-via-then-w-u+else-marks-w w ↦ falls_unmarked vol d u e from (omega (arith, w.if-w-u.true)) (sym (ap (marked (network_of vol) d) to) ∙ sym (c.requires.marks_below _ w.if-w-u.true) ∙ w.if-marks-w.false)
      | else-w-u-via-else-w-u w ↦ falls_high vol d u e from (omega (arith, w.if-w-u.false))
    ] in (
      on.within,
      on_walk vol u (e + 1) _ (omega arith) on.place,
      walk_none vol u (e + 1) _ (falls vol d u) (omega arith) on.place (falls_away vol d u) (below_more (λ (j : ℕ). falls vol d u j ≡ false) e at.2 here),
    )

pub returns : goal.returns
returns c =
    mark_missing (volume_of c.args.index.now.records.bytes.now) c.args.to c.args.u c.if-u-to.false (rw c.in_default.is at c.loop-at.invariant).2
