use Rattle.std.proofs.Common.{ap, sym, ◌∙◌, Ok}
use Rattle.std.proofs.lemmas.Result.{err_from_is_err_and}
use Rattle.full.specs.FaultFound.{verdict_refused, verdict_opened}
use Rattle.full.proofs.check.Goals as goal

pub returns-in_err-opened : goal.returns-in_err-opened
returns-in_err-opened c =
    let p = err_from_is_err_and c.from_residual.result c.from_residual.ensures.1 in
    rw (p.1, p.2) (sym (verdict_refused c.args.v.now _ c.in_err-opened.ensures.err))

pub returns : goal.returns
returns c =
    let ok = c.in_ok-opened.ensures.ok in
    ap Ok (rw ok.1 at c.fault_of.ensures) ∙ sym (verdict_opened c.args.v.now _ ok.0)
