use Rattle.settle.specs.Scan.{scan_less, scan_ends}
use Rattle.settle.proofs.seen.least_waiting.Goals as goal

pub loop-t-smaller : goal.loop-t-smaller
loop-t-smaller c =
    let a = c.args in
    scan_less a.states a.work.now a.head c.loop-t.best c.loop-t.before c.loop-t.t c.loop-t.invariant c.loop-t-test.true

pub returns-clause-result_value : goal.returns-clause-result_value
returns-clause-result_value c =
    let a = c.args in
    scan_ends a.states a.work.now a.head c.loop-t.best c.loop-t.before c.loop-t.t c.loop-t.invariant c.loop-t-test.false
