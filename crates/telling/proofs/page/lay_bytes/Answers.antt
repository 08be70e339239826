use mathlib.Core.Path.{ap, sym, ◌∙◌}
use Rattle.block.specs.Seal.{sealed}
use Rattle.block.specs.Promises.{sealed_twice}
use Rattle.telling.proofs.page.lay_bytes.Goals as goal

pub returns : goal.returns
returns c =
    let e = c.seal.ensures.1 in
    ap sealed e ∙ sealed_twice _ ∙ sym e
