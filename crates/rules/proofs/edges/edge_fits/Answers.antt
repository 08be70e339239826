use Rattle.std.proofs.Common.{ℕ, ◌≡◌, sym, ◌∙◌, arith, ne_eqb, eq-eqb}
use Rattle.block.specs.Choose.{both, both_yes, both_no}
use Rattle.block.specs.First.{all_below}
use Rattle.records.specs.Format.{Volume, volume_of, Counted, IsEdge}
use Rattle.records.specs.declared.tables.Counts.{Counts}
use Rattle.records.specs.declared.tables.Edge.{Edge}
use Rattle.rules.specs.Rules.{ends_fit, placed, begins, new_ends, piece_rule, span_rule, edge_rule}
use Rattle.rules.specs.EdgeSteps.{edge_rule_lem, span_rule_lem, fit_span, fit_fault}
use Rattle.rules.specs.Facts.{ends_fact, placed_fact}
use Rattle.rules.proofs.edges.edge_fits.Goals as goal

-- the rule of an edge, by what is read of it and of the head
rule : (vol : Volume) (c : Counts) (e begin : ℕ) (q : Edge) → Counted vol c → IsEdge vol e q → begin ≡ begins vol.edge_first vol.edge_pieces e
    → edge_rule vol e
    ≡ both (ends_fit c.junctions q.from q.to)
    (both (new_ends vol e)
    (both (placed begin c.pieces q.first q.pieces) (both (all_below (vol.edge_pieces e) (piece_rule vol e)) (span_rule vol e))))
rule vol c e begin q n i h =
    rw (n.junctions, n.pieces) (edge_rule_lem vol e q.from q.to q.first q.pieces begin i.from i.to i.first i.pieces h)

pub returns-then-not-ends_fit : goal.returns-then-not-ends_fit
returns-then-not-ends_fit c =
    let r = c.args.passed.now.records in
    sym
    (rule (volume_of r.bytes.now) r.counts c.args.passed.now.edge c.args.begin _ r.counted c.edge-edge.ensures c.requires.begin_value
    ∙ both_no _ (sym c.ends_fit.ensures ∙ c.if-not-ends_fit.true))

pub returns-then-not-is_placed : goal.returns-then-not-is_placed
returns-then-not-is_placed c =
    let r = c.args.passed.now.records in
    let fit = ends_fact _ _ _ (sym c.ends_fit.ensures ∙ c.if-not-ends_fit.false) in
    let edge = c.edge-edge.ensures in
    let new = c.requires.fresh (omega (arith, fit.from_in, edge.from, r.counted.junctions)) (omega (arith, fit.to_in, edge.to, r.counted.junctions)) in
    sym
    (rule (volume_of r.bytes.now) r.counts c.args.passed.now.edge c.args.begin _ r.counted c.edge-edge.ensures c.requires.begin_value
    ∙ both_yes _ (sym c.ends_fit.ensures ∙ c.if-not-ends_fit.false)
    ∙ both_yes _ new
    ∙ both_no _ (sym c.is_placed.ensures ∙ c.if-not-is_placed.true))

pub pieces_fit-requires : goal.pieces_fit-requires
pieces_fit-requires c =
    let q = placed_fact _ _ _ _ (sym c.is_placed.ensures ∙ c.if-not-is_placed.false) in
    let edge = c.edge-edge.ensures in
    (c.requires.e_bound, omega (arith, q.inside, edge.first, edge.pieces, c.args.passed.now.records.counted.pieces))

pub returns-in_default : goal.returns-in_default
returns-in_default c =
    let r = c.args.passed.now.records in
    let fit = ends_fact _ _ _ (sym c.ends_fit.ensures ∙ c.if-not-ends_fit.false) in
    let edge = c.edge-edge.ensures in
    let new = c.requires.fresh (omega (arith, fit.from_in, edge.from, r.counted.junctions)) (omega (arith, fit.to_in, edge.to, r.counted.junctions)) in
    sym
    (rule (volume_of r.bytes.now) r.counts c.args.passed.now.edge c.args.begin _ r.counted c.edge-edge.ensures c.requires.begin_value
    ∙ both_yes _ (sym c.ends_fit.ensures ∙ c.if-not-ends_fit.false)
    ∙ both_yes _ new
    ∙ both_yes _ (sym c.is_placed.ensures ∙ c.if-not-is_placed.false)
    ∙ both_no _ (fit_fault _ _ (sym c.in_default.is ∙ c.pieces_fit.ensures)))

pub returns-then-edge-greatest : goal.returns-then-edge-greatest
returns-then-edge-greatest c =
    let r = c.args.passed.now.records in
    let fit = ends_fact _ _ _ (sym c.ends_fit.ensures ∙ c.if-not-ends_fit.false) in
    let edge = c.edge-edge.ensures in
    let new = c.requires.fresh (omega (arith, fit.from_in, edge.from, r.counted.junctions)) (omega (arith, fit.to_in, edge.to, r.counted.junctions)) in
    let spans = fit_span _ _ _ (sym c.in-Some.is ∙ c.pieces_fit.ensures) in
    sym
    (rule (volume_of r.bytes.now) r.counts c.args.passed.now.edge c.args.begin _ r.counted c.edge-edge.ensures c.requires.begin_value
    ∙ both_yes _ (sym c.ends_fit.ensures ∙ c.if-not-ends_fit.false)
    ∙ both_yes _ new
    ∙ both_yes _ (sym c.is_placed.ensures ∙ c.if-not-is_placed.false)
    ∙ both_yes _ spans.0
    ∙ span_rule_lem (volume_of r.bytes.now) c.args.passed.now.edge _ _ edge.span spans.1
    ∙ both_yes _ (eq-eqb _ _ c.if-edge-greatest.true))

pub returns-else-edge-greatest : goal.returns-else-edge-greatest
returns-else-edge-greatest c =
    let r = c.args.passed.now.records in
    let fit = ends_fact _ _ _ (sym c.ends_fit.ensures ∙ c.if-not-ends_fit.false) in
    let edge = c.edge-edge.ensures in
    let new = c.requires.fresh (omega (arith, fit.from_in, edge.from, r.counted.junctions)) (omega (arith, fit.to_in, edge.to, r.counted.junctions)) in
    let spans = fit_span _ _ _ (sym c.in-Some.is ∙ c.pieces_fit.ensures) in
    ne_eqb _ _ c.if-edge-greatest.false
    ∙ sym
    (rule (volume_of r.bytes.now) r.counts c.args.passed.now.edge c.args.begin _ r.counted c.edge-edge.ensures c.requires.begin_value
    ∙ both_yes _ (sym c.ends_fit.ensures ∙ c.if-not-ends_fit.false)
    ∙ both_yes _ new
    ∙ both_yes _ (sym c.is_placed.ensures ∙ c.if-not-is_placed.false)
    ∙ both_yes _ spans.0
    ∙ span_rule_lem (volume_of r.bytes.now) c.args.passed.now.edge _ _ edge.span spans.1
    ∙ both_no _ (ne_eqb _ _ c.if-edge-greatest.false))
