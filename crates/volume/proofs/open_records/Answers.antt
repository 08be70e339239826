use Rattle.std.proofs.Common.{◌≡◌, refl, sym, ◌∙◌}
use Rattle.std.proofs.lemmas.Result.{err_from_is_err_and}
use Rattle.records.specs.declared.tables.Counts.{Counts}
use Rattle.records.specs.Format.{Volume, volume_of, counts_of, Counted}
use Rattle.volume.specs.OpenSteps.{pass_faulty, pass_whole, records_road, records_edge, records_fine}
use Rattle.volume.proofs.open_records.Goals as goal

-- counts that are the volume's, one by one
counts_are : (vol : Volume) (c : Counts) → Counted vol c → c ≡ counts_of vol
counts_are vol c n = rw (sym n.junctions, sym n.roads, sym n.points, sym n.edges, sym n.pieces) refl

pub returns-in_err-roads_pass : goal.returns-in_err-roads_pass
returns-in_err-roads_pass c =
    let vol = volume_of c.args.r.now.bytes.now in
    let p = err_from_is_err_and c.from_residual.result c.from_residual.ensures.1 in
    let f = pass_faulty _ _ _ _ _ _ _ (sym c.in_err-roads_pass.was ∙ c.roads_pass.ensures) in
    rw (p.1, p.2) (sym (records_road vol _ f.0 f.1))

pub returns-in_err-edges_pass : goal.returns-in_err-edges_pass
returns-in_err-edges_pass c =
    let vol = volume_of c.args.r.now.bytes.now in
    let p = err_from_is_err_and c.from_residual-in_err-edges_pass.result c.from_residual-in_err-edges_pass.ensures.1 in
    let w = pass_whole _ _ _ _ _ _ _ (sym c.in_ok-roads_pass.was ∙ c.roads_pass.ensures) in
    let f = pass_faulty _ _ _ _ _ _ _ (sym c.in_err-edges_pass.was ∙ c.edges_pass.ensures) in
    rw (p.1, p.2) (sym (records_edge vol _ w f.0 f.1))

pub returns : goal.returns
returns c =
    let r = c.args.r.now in
    let vol = volume_of r.bytes.now in
    let p = pass_whole _ _ _ _ _ _ _ (sym c.in_ok-roads_pass.was ∙ c.roads_pass.ensures) in
    let q = pass_whole _ _ _ _ _ _ _ (sym c.in_ok-edges_pass.was ∙ c.edges_pass.ensures) in
    sym (records_fine vol r.counts p q (counts_are vol r.counts r.counted))
