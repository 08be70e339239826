use Prim.Native.Nat.{ℕ, ◌+◌, ◌≤◌, ◌<◌}
use mathlib.Core.Path.{◌≡◌, sym, ◌∙◌, ap, ap₂}
use mathlib.Core.List.{List}
use native.Mathlib.Nat.{add-zero}
use borrow.Author.Tests.{lt-ltb, le-ltb}
use native.Mathlib.Omega.{arith}
use Rattle.block.specs.Choose.{choose_yes, choose_no}
use Rattle.block.specs.First.{first_go, all_stop, all_last}
use Rattle.rules.specs.Rules.{next_second, next_duration, point_fits, point_rule}
use Rattle.rules.specs.RoadSteps.{point_rule_lem}
use Rattle.records.specs.Format.{volume_of, period_is, day, IsPoint}
use Rattle.records.specs.declared.tables.Point.{Point}
use Rattle.rules.proofs.roads.points_fit.Goals as goal

-- what the pass asks of a point that is not the last, and of the last
module _ (v : List ℕ) (first n i : ℕ) (p q : Point) (h : IsPoint (volume_of v) (first + i) p) where
  inner : i + 1 < n → IsPoint (volume_of v) (first + (i + 1)) q
      → point_rule (volume_of v) first n i ≡ point_fits day p.second p.duration q.second q.duration
  unfolding next_second next_duration
  inner lt k =
      point_rule_lem (volume_of v) first n i _ _ _ _ (period_is v) h.second h.duration
      (k.second ∙ sym (choose_yes _ _ (lt-ltb _ _ lt)))
      (k.duration ∙ sym (choose_yes _ _ (lt-ltb _ _ lt)))

  last : n ≤ i + 1 → IsPoint (volume_of v) first q
      → point_rule (volume_of v) first n i ≡ point_fits day p.second p.duration (q.second + day) q.duration
  unfolding next_second next_duration
  last le k =
      let z : first ≡ first + 0 = sym (add-zero first) in
      point_rule_lem (volume_of v) first n i _ _ _ _ (period_is v) h.second h.duration
      (ap₂ ◌+◌ (k.second ∙ ap (volume_of v).point_second z) (sym (period_is v)) ∙ sym (choose_no _ _ (le-ltb _ _ le)))
      (k.duration ∙ ap (volume_of v).point_duration z ∙ sym (choose_no _ _ (le-ltb _ _ le)))

pub returns-then-not-point_fits : goal.returns-then-not-point_fits
returns-then-not-point_fits c =
    let a = c.args in
    let v = a.r.now.bytes.now in
    sym (all_stop (point_rule (volume_of v) a.first a.n) a.n c.loop-i.i (omega arith)
    (inner v a.first a.n c.loop-i.i _ _ c.loop-i.invariant.1 (omega arith) c.point-b.ensures
    ∙ sym c.point_fits.ensures ∙ c.if-not-point_fits.true) c.loop-i.invariant.0)

pub loop-i-preserved : goal.loop-i-preserved
loop-i-preserved c =
    let a = c.args in
    let v = a.r.now.bytes.now in (
      first_go (point_rule (volume_of v) a.first a.n) a.n c.loop-i.i (omega arith)
          (inner v a.first a.n c.loop-i.i _ _ c.loop-i.invariant.1 (omega arith) c.point-b.ensures
          ∙ sym c.point_fits.ensures ∙ c.if-not-point_fits.false) c.loop-i.invariant.0,
      c.point-b.ensures,
    )

pub returns : goal.returns
returns c =
    let a = c.args in
    let v = a.r.now.bytes.now in
    let is = last v a.first a.n c.loop-i.i _ _ c.loop-i.invariant.1 (omega arith) c.point-again.ensures ∙ sym c.point_fits-2.ensures in
    sym (all_last (point_rule (volume_of v) a.first a.n) a.n c.loop-i.i (omega arith) c.loop-i.invariant.0 ∙ is)
