use mathlib.Core.Path.{◌≡◌, sym}
use Rattle.std.proofs.lemmas.List.{length-take-le}
use Rattle.search.specs.declared.Answer.TheVariants.{Closed}
use Rattle.telling.proofs.say.reply.Goals as goal

pub slice_bounds-road-items-end : goal.slice_bounds-road-items-end
slice_bounds-road-items-end g c =
    let a = c.in-Ok-Closed in
    let closed : a.field-0 ≡ Closed a.field-0-0 a.field-0-1 a.roads = rw a.is at a.field-0-is in
    sym (length-take-le _ _ (c.requires _ _ _ (rw closed at a.is)))
