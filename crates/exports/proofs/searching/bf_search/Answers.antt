use native.Mathlib.Omega.{arith}
use mathlib.Core.Path.{refl}
use Rattle.exports.specs.Told.{tells_as}
use Rattle.exports.specs.Searched.{host_short, host_long}
use Rattle.exports.proofs.searching.bf_search.Goals as goal

pub returns-then-out-lt8 : goal.returns-then-out-lt8
returns-then-out-lt8 c =
    let a = c.args in
    host_short a.v.now a.from a.to a.departure a.budget a.work.now a.path.now a.out.now c.if-out-lt8.true

pub returns : goal.returns
returns c =
    let a = c.args in
    let t = tells_as _ _ _ _ _ refl (omega arith) c.tell_answer.ensures in
    host_long a.v.now a.from a.to a.departure a.budget a.work.now a.path.now a.out.now _ _ _ _ _ (omega arith) c.search-reply.ensures t.0 t.1
