use Rattle.std.proofs.Common.{sym, ◌∙◌, ap, Ok}
use Rattle.volume.specs.Opened.{opened}
use Rattle.volume.proofs.read.Goals as goal

pub tables_of-requires : goal.tables_of-requires
tables_of-requires c = (opened c.args.v.now _ (sym c.open.ensures ∙ c.in_ok-counts.was)).few

pub new-records-requires : goal.new-records-requires
new-records-requires c =
    let o = opened c.args.v.now _ (sym c.open.ensures ∙ c.in_ok-counts.was) in rw c.tables_of.ensures o.laid

pub invariant_of-result : goal.invariant_of-result
invariant_of-result c =
    let o = opened c.args.v.now _ (sym c.open.ensures ∙ c.in_ok-counts.was) in record { sound = rw c.new-records.ensures.0 o.sound }

pub returns-clause-ok : goal.returns-clause-ok
returns-clause-ok c =
    let is = sym c.open.ensures ∙ c.in_ok-counts.was in
    let o = opened c.args.v.now _ is in
    (is ∙ ap Ok (o.counts ∙ sym c.new-records.ensures.1), c.new-records.ensures.0)
