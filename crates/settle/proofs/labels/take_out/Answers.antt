use Prim.Native.Nat.{◌*◌}
use lib.ListN.{set}
use Rattle.settle.specs.Walk.{holds_settled}
use Rattle.settle.specs.Work.{holds_then, holds_spare}
use Rattle.theory.specs.Settling.{Table}
use Rattle.settle.proofs.labels.take_out.Goals as goal

pub returns-then-before-states-clause-holds : goal.returns-then-before-states-clause-holds
returns-then-before-states-clause-holds c =
    let a = c.args in
    let w = a.work.now in
    holds_then a.states w (set w (4 * a.s) 2) _ _ (λ (L : Table). L) (holds_settled a.states w a.s c.requires.s_lt_states.0 c.requires.s_lt_states.1 c.requires.waits_at)
    (holds_spare a.states (set w (4 * a.s) 2) a.before _ c.if-before-states.true)

pub returns-clause-holds : goal.returns-clause-holds
returns-clause-holds c =
    let a = c.args in
    let w = a.work.now in
    holds_settled a.states w a.s c.requires.s_lt_states.0 c.requires.s_lt_states.1 c.requires.waits_at
