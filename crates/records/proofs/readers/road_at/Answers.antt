use Prim.Native.Nat.{◌+◌, ◌*◌}
use mathlib.Core.Path.{◌≡◌, ap, ◌∙◌}
use native.Mathlib.Omega.{arith}
use borrow.Author.Rules.{rules}
use Rattle.block.specs.Word.{content_at}
use Rattle.records.specs.Format.{volume_of, roads_at, road_words}
use Rattle.records.proofs.readers.road_at.Goals as goal

pub returns : goal.returns
unfolding volume_of
returns c =
    let w = c.record_at-w in
    let last : w.result + 2 + 1 ≡ roads_at + road_words * c.args.k + 3 = omega (arith, w.ensures) in record {
      from = (cc);
      to = (cc);
      first = (cc);
      points = c.content_pair-points.ensures.1 ∙ ap (content_at c.args.v.now) last;
      first_fits = search rules;
      points_fit = search rules;
    }
