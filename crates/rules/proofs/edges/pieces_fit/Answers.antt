use Rattle.std.proofs.Common.{ℕ, ◌+◌, ◌-◌, max, ◌≡◌, refl, sym, ◌∙◌, ap, arith}
use Rattle.std.proofs.Math.Path.{ap₂}
use Rattle.block.specs.First.{first_start, first_go, all_stop, all_end}
use Rattle.records.specs.Format.{volume_of, period_is}
use Rattle.rules.specs.EdgeSteps.{piece_fit, late_start, after_start, pieces_fault, pieces_fine, fit_span, fit_fault, greatest_next}
use Rattle.rules.specs.Rules.{piece_rule, greatest_span, start}
use Rattle.rules.proofs.edges.pieces_fit.Goals as goal

pub loop-i-init : goal.loop-i-init
unfolding greatest_span
loop-i-init c = (first_start _ _, refl, λ h. absurd (omega arith))

pub returns-then-not-start_fits : goal.returns-then-not-start_fits
returns-then-not-start_fits c =
    let e = c.args.passed.now.edge in
    let v = c.args.passed.now.records.bytes.now in
    let vol = volume_of v in
    let edge = c.edge-edge.ensures in
    let i = c.loop-i.i in
    let at = c.piece-start.ensures.start ∙ ap (λ (f : ℕ). vol.piece_start (f + i)) edge.first in
    let bad = late_start vol e i _ _ (period_is v) c.loop-i.invariant.2 at (sym c.start_fits.ensures ∙ c.if-not-start_fits.true) in
    sym (pieces_fault vol e (all_stop (piece_rule vol e) _ i (omega (arith, edge.pieces)) bad c.loop-i.invariant.0))

pub returns-in_err-span : goal.returns-in_err-span
returns-in_err-span c =
    let e = c.args.passed.now.edge in
    let v = c.args.passed.now.records.bytes.now in
    let vol = volume_of v in
    let edge = c.edge-edge.ensures in
    let i = c.loop-i.i in
    let at = c.piece-start.ensures.start ∙ ap (λ (f : ℕ). vol.piece_start (f + i)) edge.first in
    let rule = after_start vol e i _ _ (period_is v) c.loop-i.invariant.2 at (sym c.start_fits.ensures ∙ c.if-not-start_fits.false) in
    let bad = fit_fault _ _ (sym c.in_err-span.was ∙ c.piece_fit.ensures ∙ ap (λ (f : ℕ). piece_fit vol e (f + i)) edge.first) in
    c.from_residual.ensures
    ∙ sym (pieces_fault vol e (all_stop (piece_rule vol e) _ i (omega (arith, edge.pieces)) (rule ∙ bad) c.loop-i.invariant.0))

pub loop-i-preserved : goal.loop-i-preserved
loop-i-preserved c =
    let e = c.args.passed.now.edge in
    let v = c.args.passed.now.records.bytes.now in
    let vol = volume_of v in
    let edge = c.edge-edge.ensures in
    let i = c.loop-i.i in
    let at = c.piece-start.ensures.start ∙ ap (λ (f : ℕ). vol.piece_start (f + i)) edge.first in
    let rule = after_start vol e i _ _ (period_is v) c.loop-i.invariant.2 at (sym c.start_fits.ensures ∙ c.if-not-start_fits.false) in
    let spans = fit_span _ _ _ (sym c.in_ok-span.was ∙ c.piece_fit.ensures ∙ ap (λ (f : ℕ). piece_fit vol e (f + i)) edge.first) in
    let back : i ≡ i + 1 - 1 = omega arith in (
      first_go (piece_rule vol e) _ i (omega (arith, edge.pieces)) (rule ∙ spans.0) c.loop-i.invariant.0,
      c.max-greatest.ensures ∙ ap₂ max c.loop-i.invariant.1 spans.1 ∙ sym (greatest_next vol (vol.edge_first e) i),
      λ h. at ∙ ap (start vol e) back,
    )

pub returns : goal.returns
returns c =
    let e = c.args.passed.now.edge in
    let vol = volume_of c.args.passed.now.records.bytes.now in
    let edge = c.edge-edge.ensures in
    let end : c.loop-i.i ≡ vol.edge_pieces e = omega (arith, edge.pieces) in
    sym (pieces_fine vol e _ (all_end (piece_rule vol e) _ c.loop-i.i (omega arith) (omega arith) c.loop-i.invariant.0)
    (c.loop-i.invariant.1 ∙ ap (greatest_span vol (vol.edge_first e)) end))
