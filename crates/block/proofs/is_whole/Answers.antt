use Rattle.std.proofs.Common.{sym, ◌∙◌, ne_eqb}
use Rattle.std.proofs.lemmas.Bool.{lt-leb}
use Rattle.block.specs.Whole.{whole_size, whole_short, whole_ragged}
use Rattle.block.proofs.is_whole.Goals as goal

pub returns-then-n-ge512 : goal.returns-then-n-ge512
returns-then-n-ge512 c = sym (whole_size _ c.if-n-eq0.true c.if-n-ge512.true)

pub returns-else-n-ge512 : goal.returns-else-n-ge512
returns-else-n-ge512 c = lt-leb _ _ c.if-n-ge512.false ∙ sym (whole_short _ c.if-n-eq0.true c.if-n-ge512.false)

pub returns-else-n-eq0 : goal.returns-else-n-eq0
returns-else-n-eq0 c = ne_eqb _ _ c.if-n-eq0.false ∙ sym (whole_ragged _ c.if-n-eq0.false)
