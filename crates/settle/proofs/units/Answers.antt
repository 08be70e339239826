use Prim.Native.Nat.{ℕ, ◌+◌}
use mathlib.Core.Path.{refl, sym, ◌∙◌, ap}
use native.Mathlib.Omega.{arith}
use Rattle.settle.specs.Units.{onward_first, holds_first, chained_first, seen_as, next_can, onward_unit, ran_no_way, ran_closed, ran_open}
use Rattle.settle.specs.Seen.{view_of, view_linked}
use Rattle.settle.specs.Work.{label_at}
use Rattle.theory.specs.Settling.{upper_end}
use Rattle.records.specs.Format.{volume_of}
use Rattle.settle.proofs.units.Goals as goal

pub loop-arrival-init : goal.loop-arrival-init
loop-arrival-init c =
    let vol = volume_of c.args.ground.now.map.times.opened.records.bytes.now in
    let n = c.args.ground.now.map.times.opened.records.counted.junctions in
    let q = c.args.query in
    let Q = c.requires.question in
    let o = c.offer_to-head in
    let k = c.clear in
    let H = holds_first vol q.from q.departure c.args.ground.now.map.times.opened.records.counts.junctions _ c.args.work.now _ _ n Q.start Q.room k.ensures o.ensures.work_after in
    let O = onward_first vol q.from q.to q.departure q.budget _ H.table in
    record {
      onward = record { within = O.within; goes = O.goes; modest = O.modest; tail = H.tail; size = H.size };
      chained = chained_first (c.args.ground.now.map.times.opened.records.counts.junctions + c.args.ground.now.map.times.opened.records.counts.junctions) q.from q.departure _ c.args.work.now _ _
          (omega (arith, n, Q.start)) (omega (arith, n, Q.room, k.auto.work)) k.ensures o.ensures.work_after o.ensures.value;
    }

pub returns-in-NothingWaits : goal.returns-in-NothingWaits
returns-in-NothingWaits c =
    let vol = volume_of c.args.ground.now.map.times.opened.records.bytes.now in
    let q = c.args.query in
    let Q = c.requires.question in
    let l = c.loop-arrival in
    let seen = seen_as vol q.to c.args.ground.now.map.times.opened.records.counts.junctions l.work _ c.args.ground.now.map.times.opened.records.counted.junctions (sym (ap view_of c.in-NothingWaits.is) ∙ c.see-view.ensures.result_value) in
    ran_no_way vol c.args.ground.now.map.times.opened.sound q.from q.to q.departure q.budget _ l.used l.work Q.destined Q.departs Q.budgeted l.invariant.onward _ refl refl seen

pub returns-in-Destination : goal.returns-in-Destination
returns-in-Destination c =
    let vol = volume_of c.args.ground.now.map.times.opened.records.bytes.now in
    let q = c.args.query in
    let Q = c.requires.question in
    let l = c.loop-arrival in
    let seen = seen_as vol q.to c.args.ground.now.map.times.opened.records.counts.junctions l.work _ c.args.ground.now.map.times.opened.records.counted.junctions (sym (ap view_of c.in-Destination.is) ∙ c.see-view.ensures.result_value) in
    ran_closed vol c.args.ground.now.map.times.opened.sound q.from q.to q.departure q.budget _ l.used l.work Q.destined Q.departs Q.budgeted l.invariant.onward _ refl refl _ seen

pub returns-then-used-query : goal.returns-then-used-query
returns-then-used-query c =
    let vol = volume_of c.args.ground.now.map.times.opened.records.bytes.now in
    let n = c.args.ground.now.map.times.opened.records.counted.junctions in
    let q = c.args.query in
    let Q = c.requires.question in
    let l = c.loop-arrival in
    let seen = seen_as vol q.to c.args.ground.now.map.times.opened.records.counts.junctions l.work _ n (sym (ap view_of c.in-Next.is) ∙ c.see-view.ensures.result_value) in
    let top = c.upper.ensures ∙ ap (λ (m : ℕ). upper_end (label_at l.work (m + q.to))) n in
    ran_open vol c.args.ground.now.map.times.opened.sound q.from q.to q.departure q.budget _ l.used l.work Q.destined Q.departs Q.budgeted l.invariant.onward _ refl refl _ _ _ seen c.if-used-query.true top

pub settle_state-head-requires : goal.settle_state-head-requires
settle_state-head-requires c =
    let vol = volume_of c.args.ground.now.map.times.opened.records.bytes.now in
    let n = c.args.ground.now.map.times.opened.records.counted.junctions in
    let q = c.args.query in
    let Q = c.requires.question in
    let l = c.loop-arrival in
    let seen = seen_as vol q.to c.args.ground.now.map.times.opened.records.counts.junctions l.work _ n (sym (ap view_of c.in-Next.is) ∙ c.see-view.ensures.result_value) in
    let can = next_can vol c.args.ground.now.map.times.opened.sound q.from q.to q.departure q.budget _ l.used l.work Q.destined Q.departs Q.budgeted l.invariant.onward _ _ seen in
    record {
      s_bound = omega arith;
      arrival_bound = (can.2, omega (arith, n, Q.room, l.invariant.onward.size));
      waits_at = can.1;
      chained = l.invariant.chained;
      precedes = view_linked _ _ _ _ _ c.in-Next.is c.see-view.ensures.view_linked;
    }

pub loop-arrival-preserved : goal.loop-arrival-preserved
loop-arrival-preserved c =
    let vol = volume_of c.args.ground.now.map.times.opened.records.bytes.now in
    let q = c.args.query in
    let Q = c.requires.question in
    let l = c.loop-arrival in
    let seen = seen_as vol q.to c.args.ground.now.map.times.opened.records.counts.junctions l.work _ c.args.ground.now.map.times.opened.records.counted.junctions (sym (ap view_of c.in-Next.is) ∙ c.see-view.ensures.result_value) in
    let s = c.settle_state-head in
    record {
      onward = onward_unit vol c.args.ground.now.map.times.opened.sound q.from q.to q.departure q.budget _ l.used l.work Q.destined Q.departs Q.budgeted l.invariant.onward _ _ seen _
          (omega (arith, l.invariant.onward.within, c.if-used-query.false)) (s.ensures.does q.to c.requires.marked);
      chained = s.ensures.chained_2;
    }
