use Rattle.std.proofs.Common.{◌≡◌, sym}
use Rattle.std.proofs.lemmas.List.{length-take-le}
use Rattle.search.specs.declared.Answer.TheVariants.{Closed}
use Rattle.telling.specs.Room.{roads_fit}
use Rattle.sweep.proofs.compare.Goals as goal

pub slice_bounds-path-end : goal.slice_bounds-path-end
slice_bounds-path-end c =
    let a = c.in-Ok-Closed in
    let closed : a.field-0 ≡ Closed a.at a.field-0-1 a.n = rw a.is at a.field-0-is in
    roads_fit c.search-a.ensures _ _ _ (rw closed at a.is)

pub slice_bounds-driven-end : goal.slice_bounds-driven-end
slice_bounds-driven-end c =
    let a = c.in-Ok-Closed in
    let closed : a.field-0 ≡ Closed a.at a.field-0-1 a.n = rw a.is at a.field-0-is in
    sym (length-take-le _ _ (roads_fit c.search-a.ensures _ _ _ (rw closed at a.is)))
