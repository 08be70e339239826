use Prim.Native.Nat.{◌%◌}
use mathlib.Core.Path.{sym, ◌∙◌}
use Rattle.telling.specs.Page.{put_inside, put_past}
use Rattle.telling.proofs.page.put.Goals as goal

pub returns-then-i-v : goal.returns-then-i-v
returns-then-i-v c =
    let a = c.args in
    c.put_word.ensures ∙ sym (put_inside a.v.now (a.w % 1000000) a.x c.if-i-v.true)

pub returns-else-i-v : goal.returns-else-i-v
returns-else-i-v c =
    let a = c.args in
    sym (put_past a.v.now (a.w % 1000000) a.x c.if-i-v.false)
