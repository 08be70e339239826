use mathlib.Core.Path.{◌∙◌}
use native.Mathlib.Omega.{arith}
use Rattle.rules.specs.Kept.{part}
use Rattle.rules.proofs.kept.Earlier.ends.Goals as goal

pub returns-clause-from_value : goal.returns-clause-from_value
unfolding part
returns-clause-from_value c =
    let kept = c.kept_part.ensures in
    (kept.0 ∙ c.args.self.now.holds.parts c.args.d 0 c.requires (omega arith), kept.1)

pub returns-clause-to_value : goal.returns-clause-to_value
unfolding part
returns-clause-to_value c =
    let kept = c.kept_part-2.ensures in
    (kept.0 ∙ c.args.self.now.holds.parts c.args.d 1 c.requires (omega arith), kept.1)
