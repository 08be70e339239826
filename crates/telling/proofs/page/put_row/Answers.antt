use mathlib.Core.Path.{refl}
use Rattle.telling.specs.Page.{put_row, put_row_next}
use Rattle.telling.proofs.page.put_row.Goals as goal

pub loop-i-init : goal.loop-i-init
unfolding put_row
loop-i-init c = refl

pub loop-i-preserved : goal.loop-i-preserved
loop-i-preserved c =
    let a = c.args in
    cc (put_row_next a.v.now a.w a.row.now c.loop-i.i)
