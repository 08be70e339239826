use Rattle.std.proofs.Common.{ℕ, ◌≡◌, refl, sym, ◌∙◌, Bool, true, false, Some, None}
use Rattle.std.specs.Bool.{then_some}
use Rattle.block.specs.Choose.{choose}
use Rattle.records.specs.Format.{volume_of}
use Rattle.rules.specs.EdgeSteps.{fit_road, fit_pair, pair_below}
use Rattle.rules.proofs.edges.piece_fit.Goals as goal

-- a test as the span of a road that passes it
some_joins : (t : Bool) → then_some {T = ℕ} t 1 ≡ choose t (Some 1) None
unfolding choose
some_joins true = refl
some_joins false = refl

pub returns-in-Road : goal.returns-in-Road
returns-in-Road c =
    let w = rw c.in-Road.is at c.piece.ensures.way in
    let joins = some_joins c.road_joins.result in
    c.then_some.ensures
    ∙ joins
    ∙ sym (fit_road (volume_of c.args.passed.now.records.bytes.now) c.args.passed.now.edge c.args.p _ _ _ _ c.requires.over_value.0 c.requires.over_value.1 w.1 refl w.0 (sym c.road_joins.ensures))

pub span-requires : goal.span-requires
span-requires c =
    let q = pair_below (volume_of c.args.passed.now.records.bytes.now) _ _ _ _ _ (sym c.pair_joins.ensures ∙ c.if-pair_joins.true) in
    q.0

pub span-requires-then-pair_joins : goal.span-requires-then-pair_joins
span-requires-then-pair_joins c =
    let q = pair_below (volume_of c.args.passed.now.records.bytes.now) _ _ _ _ _ (sym c.pair_joins.ensures ∙ c.if-pair_joins.true) in
    q.1

pub returns-then-pair_joins : goal.returns-then-pair_joins
unfolding choose
returns-then-pair_joins c =
    let w = rw c.in-Turn.is at c.piece.ensures.way in
    let q = pair_below (volume_of c.args.passed.now.records.bytes.now) _ _ _ _ _ (sym c.pair_joins.ensures ∙ c.if-pair_joins.true) in
    sym (fit_pair (volume_of c.args.passed.now.records.bytes.now) c.args.passed.now.edge c.args.p _ _ _ _ c.requires.over_value.0 c.requires.over_value.1
    w.1 w.2 (λ z. w.0 (sym w.2 ∙ z)) (sym c.pair_joins.ensures ∙ c.if-pair_joins.true)
    _ _ c.span.ensures.0 c.span-then-pair_joins.ensures.0)

pub returns-else-pair_joins : goal.returns-else-pair_joins
unfolding choose
returns-else-pair_joins c =
    let w = rw c.in-Turn.is at c.piece.ensures.way in
    sym (fit_pair (volume_of c.args.passed.now.records.bytes.now) c.args.passed.now.edge c.args.p _ _ _ _ c.requires.over_value.0 c.requires.over_value.1
    w.1 w.2 (λ z. w.0 (sym w.2 ∙ z)) (sym c.pair_joins.ensures ∙ c.if-pair_joins.false) _ _ refl refl)
