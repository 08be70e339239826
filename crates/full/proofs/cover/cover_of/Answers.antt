use Rattle.std.proofs.Common.{refl, sym, ◌∙◌, arith}
use Rattle.records.specs.Format.{volume_of}
use Rattle.full.specs.CoverFound.{cover_missing, cover_fine, cover_late}
use Rattle.full.specs.Turns.{way_of}
use Rattle.full.proofs.cover.cover_of.Goals as goal

pub returns-in_default : goal.returns-in_default
returns-in_default c =
    let vol = volume_of c.args.map.now.times.opened.records.bytes.now in
    sym (cover_missing vol c.args.u c.args.w (way_of c.args.way) _ refl c.in_default.ensures)

pub returns-in_err-x : goal.returns-in_err-x
returns-in_err-x c =
    let vol = volume_of c.args.map.now.times.opened.records.bytes.now in
    let edge = c.in-Some.ensures in
    c.from_residual.ensures
    ∙ sym (cover_fine vol c.args.u c.args.w (way_of c.args.way) _ edge.0 (λ z. omega (arith, edge.1)) _ refl c.in_err-x.ensures)

pub returns : goal.returns
returns c =
    let vol = volume_of c.args.map.now.times.opened.records.bytes.now in
    let edge = c.in-Some.ensures in
    let late = c.in_ok-x.ensures in
    sym (cover_late vol c.args.u c.args.w (way_of c.args.way) _ edge.0 (λ z. omega (arith, edge.1)) _ late.0 (λ z. omega (arith, late.1)))
