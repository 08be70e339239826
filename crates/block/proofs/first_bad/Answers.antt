use Rattle.std.proofs.Common.{sym, ◌∙◌, arith}
use Rattle.block.specs.First.{first_go, first_stop, first_end}
use Rattle.block.specs.Good.{good}
use Rattle.block.proofs.first_bad.Goals as goal

pub returns-then-not-carries : goal.returns-then-not-carries
returns-then-not-carries c =
    let bad = sym c.carries.ensures ∙ c.if-not-carries.true in
    (first_stop (good c.args.v.now) c.args.n c.loop-k.k (omega arith) bad c.loop-k.invariant, omega arith)

pub loop-k-preserved : goal.loop-k-preserved
loop-k-preserved c =
    let fine = sym c.carries.ensures ∙ c.if-not-carries.false in
    first_go (good c.args.v.now) c.args.n c.loop-k.k (omega arith) fine c.loop-k.invariant

pub returns : goal.returns
returns c =
    let last = first_end (good c.args.v.now) c.args.n c.loop-k.k (omega arith) c.loop-k.invariant in
    omega (arith, last)
