use Rattle.block.specs.declared.refusal.Refusal.TheVariants.{Edge}
use Prim.Native.Nat.{◌+◌, ◌<◌}
use mathlib.Core.Path.{◌≡◌, refl, sym, ◌∙◌, ap, ap₂}
use native.Mathlib.Omega.{arith}
use lib.ListN.{length}
use Rattle.volume.specs.Repeats.{before_repeat, at_repeat}
use Rattle.rules.specs.EdgeSteps.{edge_repeats, edge_tests, begin_next}
use Rattle.rules.specs.Kept.{kept_none, kept_next, keeping_length, short_edge}
use Rattle.rules.specs.Facts.{placed_fact}
use Rattle.volume.specs.Passes.{pass_fault, pass_over_lem, pass_fine}
use Rattle.rules.specs.Rules.{edge_rule, begins}
use Rattle.records.specs.Format.{volume_of}
use Rattle.block.specs.First.{first_start, first_go}
use Rattle.volume.proofs.edge_pass.pass_keeping.Goals as goal

pub loop-e-init : goal.loop-e-init
unfolding begins
loop-e-init c =
    (first_start _ _, refl, kept_none (volume_of c.args.r.now.bytes.now) c.args.kept.now (omega (arith, c.args.r.now.counted.edges)), refl)

pub edge_fits-requires-clause-fresh : goal.edge_fits-requires-clause-fresh
edge_fits-requires-clause-fresh c =
    let R = c.requires.first_repeat in
    before_repeat (volume_of c.args.r.now.bytes.now) _ c.loop-e.e R c.loop-e-test.true

pub returns-then-not-edge_fits : goal.returns-then-not-edge_fits
returns-then-not-edge_fits c =
    let vol = volume_of c.args.r.now.bytes.now in
    let bad = sym c.edge_fits.ensures ∙ c.if-not-edge_fits.true in
    sym (pass_fault Edge (edge_rule vol) vol.edge_first vol.edge_pieces vol.edges vol.pieces c.loop-e.e (omega (arith, c.requires.first_repeat.inside, c.loop-e-test.true)) bad c.loop-e.invariant.0)

pub overflow_add-begin : goal.overflow_add-begin
overflow_add-begin c =
    let vol = volume_of c.args.r.now.bytes.now in
    let fine = sym c.edge_fits.ensures ∙ c.if-not-edge_fits.false in
    let place = placed_fact _ _ _ _ (edge_tests vol c.loop-e.e fine).place in
    omega (arith, place.begins_at, place.inside, c.loop-e.invariant.1, c.edge-begin.ensures.pieces, c.args.r.now.counted.pieces)

pub keep-requires-clause-short : goal.keep-requires-clause-short
keep-requires-clause-short c =
    let vol = volume_of c.args.r.now.bytes.now in
    let in-edges : c.loop-e.e < vol.edges = omega (arith, c.requires.first_repeat.inside, c.loop-e-test.true) in
    let fine = sym c.edge_fits.ensures ∙ c.if-not-edge_fits.false in
    short_edge vol c.loop-e.e (omega (arith, c.requires.junctions_bound, c.args.r.now.counted.junctions)) fine

pub loop-e-preserved : goal.loop-e-preserved
loop-e-preserved c =
    let vol = volume_of c.args.r.now.bytes.now in
    let e = c.loop-e.e in
    let in-edges : e < vol.edges = omega (arith, c.requires.first_repeat.inside, c.loop-e-test.true) in
    let fine = sym c.edge_fits.ensures ∙ c.if-not-edge_fits.false in (
      first_go (edge_rule vol) vol.edges e in-edges fine c.loop-e.invariant.0,
      ap₂ ◌+◌ c.loop-e.invariant.1 c.edge-begin.ensures.pieces ∙ sym (begin_next vol e fine),
      rw c.keep.ensures (kept_next vol e c.loop-e.kept c.loop-e.invariant.2 in-edges),
      ap length c.keep.ensures ∙ keeping_length vol e c.loop-e.kept ∙ c.loop-e.invariant.3,
    )

pub returns-then-repeat-r : goal.returns-then-repeat-r
returns-then-repeat-r c =
    let vol = volume_of c.args.r.now.bytes.now in
    let repeat = c.args.repeat in
    let R = c.requires.first_repeat in
    let here : c.loop-e.e ≡ repeat = omega arith in
    let lt : repeat < vol.edges = omega (arith, c.args.r.now.counted.edges) in
    let bad = edge_repeats vol repeat (at_repeat vol repeat (R.found lt)) in
    sym (pass_fault Edge (edge_rule vol) vol.edge_first vol.edge_pieces vol.edges vol.pieces repeat lt bad (rw here at c.loop-e.invariant.0))

pub returns-then-begin-r : goal.returns-then-begin-r
returns-then-begin-r c =
    let vol = volume_of c.args.r.now.bytes.now in
    let repeat = c.args.repeat in
    let n = c.args.r.now.counted.edges in
    let R = c.requires.first_repeat.inside in
    let here : c.loop-e.e ≡ repeat = omega arith in
    let h = rw here at c.loop-e.invariant in
    sym (pass_over_lem Edge (edge_rule vol) vol.edge_first vol.edge_pieces vol.edges vol.pieces repeat c.loop-e.begin (omega arith) (omega arith) h.0 h.1
    (λ z. c.if-begin-r.true (z ∙ sym c.args.r.now.counted.pieces)))

pub returns : goal.returns
returns c =
    let vol = volume_of c.args.r.now.bytes.now in
    let repeat = c.args.repeat in
    let n = c.args.r.now.counted.edges in
    let R = c.requires.first_repeat.inside in
    let here : c.loop-e.e ≡ repeat = omega arith in
    let h = rw here at c.loop-e.invariant in
    sym (pass_fine Edge (edge_rule vol) vol.edge_first vol.edge_pieces vol.edges vol.pieces repeat c.loop-e.begin (omega arith) (omega arith) h.0 h.1
    (c.if-begin-r.false ∙ c.args.r.now.counted.pieces))
