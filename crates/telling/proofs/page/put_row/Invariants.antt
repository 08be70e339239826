use mathlib.Core.Path.{◌≡◌}
use Rattle.telling.specs.Page.{put_row}
use Rattle.telling.proofs.page.put_row.Given as goal

abbrev pub invariant-loop-i : goal.invariant-loop-i
invariant-loop-i l = l.v ≡ put_row l.initial.v l.w l.row l.i
