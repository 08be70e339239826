use Rattle.std.proofs.Common.{◌-◌, ◌<◌, ◌≤◌, ◌≡◌, refl, sym, ◌∙◌, ap, arith, lt-ltb, le-ltb, Ok}
use Rattle.std.proofs.lemmas.Result.{err_from_is_err_and}
use Rattle.block.specs.Choose.{choose_yes, choose_no}
use Rattle.records.specs.Format.{volume_of}
use Rattle.travel.specs.Network.{arrival}
use Rattle.travel.specs.Times.{edge_time_of}
use Rattle.travel.proofs.edge_time.Goals as goal

pub returns-in_err-opened : goal.returns-in_err-opened
unfolding edge_time_of
returns-in_err-opened c =
    let p = err_from_is_err_and c.from_residual.result c.from_residual.ensures.1 in rw (p.1, p.2, c.in_err-opened.ensures.err) refl

pub returns-then-opened-e : goal.returns-then-opened-e
unfolding edge_time_of
returns-then-opened-e c =
    let ok = c.in_ok-opened.ensures.ok in
    let none : (volume_of c.args.v.now).edges ≤ c.args.edge =
    rw (← ok.1) (omega (arith, c.in_ok-opened.opened.records.counted.edges)) in
    rw ok.0 (sym (choose_no _ _ (le-ltb _ _ none)))

pub edge_lasts-requires : goal.edge_lasts-requires
edge_lasts-requires c =
    let o = c.in_ok-opened.opened in
    let n = o.records.counted.edges in
    record { there = omega arith; fits = omega (arith, (o.sound.edge c.args.edge (omega arith)).span) }

pub returns : goal.returns
unfolding edge_time_of
returns c =
    let ok = c.in_ok-opened.ensures.ok in
    let there : c.args.edge < (volume_of c.args.v.now).edges =
    rw (← ok.1) (omega (arith, c.in_ok-opened.opened.records.counted.edges)) in
    let arrives = rw ok.1 at c.edge_lasts.ensures in
    let lasts : c.edge_lasts.result ≡ arrival (volume_of c.args.v.now) c.args.edge c.args.departure - c.args.departure = omega arith in
    rw ok.0 (ap Ok lasts ∙ sym (choose_yes _ _ (lt-ltb _ _ there)))
