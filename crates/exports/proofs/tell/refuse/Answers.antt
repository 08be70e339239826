use mathlib.Core.Path.{◌∙◌, ap}
use mathlib.Core.List.{[], ◌∷◌}
use Rattle.exports.specs.Told.{stored, with_first}
use Prim.Native.Nat.{ℕ}
use Rattle.exports.proofs.tell.refuse.Goals as goal

pub returns : goal.returns
returns c =
    let out = c.args.out.now in
    (c.number.ensures, stored out (c.place.result ∷ []) c.requires ∙ ap (λ (place : ℕ). with_first (place ∷ []) out) c.place.ensures)
