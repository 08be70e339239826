use Rattle.search.specs.Steps.{tells_no_way, tells_open, ran_chain}
use Rattle.search.proofs.apply_rule.Goals as goal

pub close-requires-clause-used_bound : goal.close-requires-clause-used_bound
close-requires-clause-used_bound c =
    let R = rw c.in-Closed.is at c.run-outcome.ensures in
    ran_chain c.args.opened.now.sound c.requires R

pub returns-in-NoWay : goal.returns-in-NoWay
returns-in-NoWay c =
    tells_no_way c.args.path.now (rw c.in-NoWay.is at c.run-outcome.ensures)

pub returns-in-Open : goal.returns-in-Open
returns-in-Open c =
    tells_open c.args.path.now (rw c.in-Open.is at c.run-outcome.ensures)
