use Rattle.records.specs.Format.{volume_of}
use Rattle.settle.specs.Walk.{unit_done}
use Rattle.settle.proofs.arcs.settle_state.Goals as goal

pub returns-clause-does : goal.returns-clause-does
returns-clause-does c =
    let o = c.offer_arcs in
    λ d m. unit_done (volume_of c.args.ground.now.map.times.opened.records.bytes.now) d c.args.waiting.state c.args.waiting.arrival c.args.ground.now.map.times.opened.records.counts.junctions c.args.work.now _ _ c.args.ground.now.map.times.opened.records.counted.junctions
    c.take_out-front.ensures.holds (o.ensures.does d m)
