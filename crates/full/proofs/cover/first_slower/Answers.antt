use Rattle.std.proofs.Common.{◌≡◌, refl, sym, ◌∙◌, arith, rules}
use Rattle.records.specs.Format.{volume_of}
use Rattle.full.specs.Cover.{not_after}
use Rattle.full.specs.Runs.{from_go, from_stop, from_end, from_all}
use Rattle.full.specs.Turns.{way_of, turn_late, turn_in_time, way_same}
use Rattle.full.proofs.cover.first_slower.Goals as goal

pub returns-then-eq : goal.returns-then-eq
returns-then-eq c =
    let vol = volume_of c.args.times.now.opened.records.bytes.now in
    let same : c.args.piece ≡ c.args.way = search rules in
    sym (from_all (not_after vol (way_of c.args.piece) (way_of c.args.way)) c.args.from c.args.end c.requires.from_le_end.0
    (λ i l h. way_same vol c.args.piece c.args.way i same))

pub returns-then-rival-own : goal.returns-then-rival-own
returns-then-rival-own c =
    let vol = volume_of c.args.times.now.opened.records.bytes.now in
    let p = way_of c.args.piece in
    let q = way_of c.args.way in
    let x = c.loop-x.x in (
      from_stop (not_after vol p q) x c.args.end c.loop-x-test.true
          (turn_late vol p q x _ _ c.in_turn-own.ensures c.in_turn-rival.ensures c.if-rival-own.true)
          ∙ c.loop-x.invariant.2,
      c.loop-x-test.true,
    )

pub loop-x-init : goal.loop-x-init
loop-x-init c = (omega arith, c.requires.from_le_end.0, refl)

pub loop-x-preserved : goal.loop-x-preserved
loop-x-preserved c =
    let vol = volume_of c.args.times.now.opened.records.bytes.now in
    let p = way_of c.args.piece in
    let q = way_of c.args.way in
    let x = c.loop-x.x in (
      omega arith,
      omega arith,
      from_go (not_after vol p q) x c.args.end c.loop-x-test.true
          (turn_in_time vol p q x _ _ c.in_turn-own.ensures c.in_turn-rival.ensures (omega (arith, c.if-rival-own.false)))
          ∙ c.loop-x.invariant.2,
    )

pub returns : goal.returns
returns c =
    let late = not_after (volume_of c.args.times.now.opened.records.bytes.now) (way_of c.args.piece) (way_of c.args.way) in
    let last = from_end late c.loop-x.x c.args.end (omega (arith, c.loop-x-test.false)) in
    sym c.loop-x.invariant.2 ∙ sym last ∙ (omega arith)
