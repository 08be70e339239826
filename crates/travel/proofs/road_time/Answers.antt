use Rattle.std.proofs.Common.{◌<◌, ◌≤◌, refl, sym, ◌∙◌, ap, arith, lt-ltb, le-ltb, Ok}
use Rattle.std.proofs.lemmas.Result.{err_from_is_err_and}
use Rattle.block.specs.Choose.{choose_yes, choose_no}
use Rattle.records.specs.Format.{volume_of}
use Rattle.travel.specs.Times.{road_time_of}
use Rattle.travel.proofs.road_time.Goals as goal

pub returns-in_err-opened : goal.returns-in_err-opened
unfolding road_time_of
returns-in_err-opened c =
    let p = err_from_is_err_and c.from_residual.result c.from_residual.ensures.1 in rw (p.1, p.2, c.in_err-opened.ensures.err) refl

pub returns-then-opened-k : goal.returns-then-opened-k
unfolding road_time_of
returns-then-opened-k c =
    let ok = c.in_ok-opened.ensures.ok in
    let none : (volume_of c.args.v.now).roads ≤ c.args.road =
    rw (← ok.1) (omega (arith, c.in_ok-opened.opened.records.counted.roads)) in
    rw ok.0 (sym (choose_no _ _ (le-ltb _ _ none)))

pub returns : goal.returns
unfolding road_time_of
returns c =
    let ok = c.in_ok-opened.ensures.ok in
    let there : c.args.road < (volume_of c.args.v.now).roads =
    rw (← ok.1) (omega (arith, c.in_ok-opened.opened.records.counted.roads)) in
    rw ok.0 (ap Ok (rw ok.1 at c.road_duration.ensures) ∙ sym (choose_yes _ _ (lt-ltb _ _ there)))
