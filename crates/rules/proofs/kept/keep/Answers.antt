use Rattle.rules.specs.Kept.{keeping}
use Rattle.rules.proofs.kept.keep.Goals as goal

pub returns : goal.returns
unfolding keeping
returns c =
    let from = c.edge-edge.ensures.from in
    let to = c.edge-edge.ensures.to in
    let span = c.edge-edge.ensures.span in
    (cc)
