use Rattle.std.proofs.lemmas.Result.{err_from_is_err_and}
use Rattle.search.specs.Steps.{not_opened}
use Rattle.search.proofs.search.Goals as goal

pub returns-in_err-opened : goal.returns-in_err-opened
returns-in_err-opened c =
    let a = c.args in
    let p = err_from_is_err_and c.from_residual.result c.from_residual.ensures.1 in
    rw (p.1, p.2) (not_opened a.v.now a.from a.to a.departure a.budget a.work.now a.path.now _ c.in_err-opened.ensures.err)

pub search_open-requires-clause-opens : goal.search_open-requires-clause-opens
search_open-requires-clause-opens c = let ok = c.in_ok-opened.ensures.ok in rw ok.1 ok.0

pub returns : goal.returns
returns c = rw c.in_ok-opened.ensures.ok.1 at c.search_open.ensures
