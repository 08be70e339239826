use Rattle.std.proofs.Common.{ap, sym, ◌∙◌, arith}
use Rattle.records.specs.Format.{volume_of}
use Rattle.theory.specs.Network.{Piece}
use Rattle.full.specs.Cover.{cover_of}
use Rattle.full.specs.Turns.{pair_named}
use Rattle.full.specs.FaultFound.{fault_low, fault_back, pair_fault_by}
use Rattle.full.proofs.pair_fault.Goals as goal

pub returns-then-w-m : goal.returns-then-w-m
returns-then-w-m c =
    sym (fault_low (volume_of c.args.map.now.times.opened.records.bytes.now) c.args.l c.args.r (omega (arith, c.edge-w.ensures.to, c.requires.u_value, c.if-w-m.true)))

pub returns-then-w-u : goal.returns-then-w-u
returns-then-w-u c =
    sym (fault_back (volume_of c.args.map.now.times.opened.records.bytes.now) c.args.l c.args.r (sym c.requires.u_value.0 ∙ sym c.if-w-u.true ∙ c.edge-w.ensures.to))

pub returns : goal.returns
returns c =
    let o = c.args.map.now.times.opened in
    let vol = volume_of o.records.bytes.now in
    let l = c.args.l in
    let r = c.args.r in
    let named = pair_named vol o.sound l r 0 c.requires.l_bound.0 c.requires.l_bound.1 in
    let by = c.cover_of-flaw.ensures ∙ ap (λ (p : Piece). cover_of vol c.args.u c.edge-w.result.to p) (sym named) in
    c.of_pair.ensures
    ∙ pair_fault_by vol l r c.args.u c.args.m _ c.requires.u_value.0 c.requires.u_value.1 c.edge-w.ensures.to _ o.sound
    c.requires.l_bound.1 c.requires.m_value.0 c.requires.m_value.1 (omega (arith, c.if-w-m.false)) c.if-w-u.false by
