use mathlib.Core.Path.{◌∙◌}
use native.Mathlib.Omega.{arith}
use Rattle.rules.specs.Kept.{part}
use Rattle.rules.proofs.kept.Earlier.span.Goals as goal

pub returns : goal.returns
unfolding part
returns c =
    let kept = c.kept_part.ensures in
    (kept.0 ∙ c.args.self.now.holds.parts c.args.d 2 c.requires (omega arith), kept.1)
