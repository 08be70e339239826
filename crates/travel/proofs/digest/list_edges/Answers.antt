use Rattle.std.proofs.Common.{ℕ, ◌+◌, ◌*◌, ◌<◌, ◌≡◌, refl, ◌∙◌, ap, arith, List, length-set, set}
use Rattle.records.specs.Format.{volume_of}
use Rattle.travel.specs.Digest.{pieces_from, listed, listed_none, listed_more, pieces_start, pieces_next}
use Rattle.travel.proofs.digest.list_edges.Goals as goal

pub loop-e-init : goal.loop-e-init
loop-e-init c =
    let r = c.args.opened.now.records in
    (pieces_start (volume_of r.bytes.now) r.tables.pieces r.laid.pieces, (λ l q. q), refl)

pub loop-e-preserved : goal.loop-e-preserved
loop-e-preserved c =
    let r = c.args.opened.now.records in
    let from = pieces_from (volume_of r.bytes.now) in
    let d = c.loop-e.digest in
    let e = c.loop-e.e in
    let z : e + 1 ≡ 0 + (e + 1) = omega arith in
    let inside : e < (volume_of r.bytes.now).edges = omega (arith, r.counted.edges) in
    let next = pieces_next c.args.opened.now.sound e inside _ _ c.loop-e.invariant.0 c.edge.ensures.pieces in (
      next,
      (λ (m : List ℕ) q.
          ap (λ (j : ℕ). set d j (c.loop-e.word + 3 * c.edge.result.pieces)) z
          ∙ listed_more 0 from (e + 1) m d _ (c.loop-e.invariant.1 m q) next),
      length-set d (e + 1) _ ∙ c.loop-e.invariant.2,
    )

pub returns : goal.returns
returns c =
    let r = c.args.opened.now.records in
    let from = pieces_from (volume_of r.bytes.now) in
    let m = c.args.digest.now in
    let start = listed_more 0 from 0 m m _ (listed_none 0 from m) (pieces_start (volume_of r.bytes.now) r.tables.pieces r.laid.pieces) in
    let e : c.loop-e.e ≡ r.counts.edges = omega arith in
    c.loop-e.invariant.1 m start ∙ ap (λ (n : ℕ). listed 0 from (n + 1) m) e
