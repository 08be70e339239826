use Rattle.std.proofs.Common.{◌≡◌, arith}
use Rattle.block.specs.Word.{block_word}
use Rattle.block.specs.Sums.{summed_next}
use Rattle.block.specs.Lanes.{lane_start, lane_next, summed_lanes}
use Rattle.block.proofs.sums_of.Goals as goal

pub loop-i-init : goal.loop-i-init
loop-i-init c =
    let a = c.args in (
      lane_start a.v.now a.k 0 _ c.default-l0.ensures.0 c.default-l0.ensures.1,
      lane_start a.v.now a.k 1 _ c.default-l1.ensures.0 c.default-l1.ensures.1,
      lane_start a.v.now a.k 2 _ c.default-l2.ensures.0 c.default-l2.ensures.1,
      lane_start a.v.now a.k 3 _ c.default-l3.ensures.0 c.default-l3.ensures.1,
    )

pub loop-i-preserved : goal.loop-i-preserved
loop-i-preserved c =
    let v = c.args.v.now in
    let k = c.args.k in
    let i = c.loop-i.i in
    let h = c.loop-i.invariant in (
      lane_next v k 0 i _ _ _ _ h.0 (omega arith) c.word.ensures c.gain-l0.ensures,
      lane_next v k 1 i _ _ _ _ h.1 (omega arith) c.word-in-loop-i.ensures c.gain-l1.ensures,
      lane_next v k 2 i _ _ _ _ h.2 (omega arith) c.word-in-loop-i-2.ensures c.gain-l2.ensures,
      lane_next v k 3 i _ _ _ _ h.3 (omega arith) c.word-in-loop-i-3.ensures c.gain-l3.ensures,
    )

pub returns : goal.returns
unfolding block_word
returns c =
    let v = c.args.v.now in
    let k = c.args.k in
    let e : c.loop-i.i ≡ 31 = omega arith in
    let h = rw e at c.loop-i.invariant in
    let lanes = summed_lanes v k _ _ _ _ _ c.requires.k_bound h.0 h.1 h.2 h.3 c.join.ensures in
    let next = summed_next v k 124 _ _ _ lanes c.word-x.ensures c.gain.ensures in
    summed_next v k 125 _ _ _ next c.word-y.ensures c.gain-2.ensures
