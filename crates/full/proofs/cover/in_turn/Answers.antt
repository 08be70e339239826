use Rattle.std.proofs.Common.{arith}
use Rattle.records.specs.Format.{volume_of, period_is}
use Rattle.full.specs.Turns.{road_goes, pair_goes, pair_named}
use Rattle.full.proofs.cover.in_turn.Goals as goal

pub returns-in-Road : goal.returns-in-Road
returns-in-Road c =
    let o = c.args.times.now.opened in
    let v = o.records.bytes.now in
    let k = rw c.in-Road.is at c.requires.known in
    rw c.in-Road.is (road_goes (volume_of v) o.sound c.in-Road.k c.args.x _ k c.road_lasts.ensures)

pub edge_duration-a-requires : goal.edge_duration-a-requires
edge_duration-a-requires c =
    let o = c.args.times.now.opened in
    let v = o.records.bytes.now in
    let k = rw c.in-Turn.is at c.requires.known in
    let T = pair_goes (volume_of v) o.sound c.in-Turn.left c.in-Turn.right c.args.x k.0 k.1 (period_is v) c.requires.x_bound in
    T.enters

pub overflow_add-x : goal.overflow_add-x
overflow_add-x c =
    let o = c.args.times.now.opened in
    let v = o.records.bytes.now in
    let k = rw c.in-Turn.is at c.requires.known in
    let T = pair_goes (volume_of v) o.sound c.in-Turn.left c.in-Turn.right c.args.x k.0 k.1 (period_is v) c.requires.x_bound in
    omega (arith, (T.goes_on _ c.edge_duration-a.ensures).fits)

pub edge_duration-b-requires : goal.edge_duration-b-requires
edge_duration-b-requires c =
    let o = c.args.times.now.opened in
    let v = o.records.bytes.now in
    let k = rw c.in-Turn.is at c.requires.known in
    let T = pair_goes (volume_of v) o.sound c.in-Turn.left c.in-Turn.right c.args.x k.0 k.1 (period_is v) c.requires.x_bound in
    T.goes_on _ c.edge_duration-a.ensures

pub overflow_add-result : goal.overflow_add-result
overflow_add-result c =
    let o = c.args.times.now.opened in
    let v = o.records.bytes.now in
    let k = rw c.in-Turn.is at c.requires.known in
    let T = pair_goes (volume_of v) o.sound c.in-Turn.left c.in-Turn.right c.args.x k.0 k.1 (period_is v) c.requires.x_bound in
    omega (arith, T.sum _ _ c.edge_duration-a.ensures c.edge_duration-b.ensures)

pub returns-in-Turn : goal.returns-in-Turn
returns-in-Turn c =
    let o = c.args.times.now.opened in
    let v = o.records.bytes.now in
    let k = rw c.in-Turn.is at c.requires.known in
    let T = pair_goes (volume_of v) o.sound c.in-Turn.left c.in-Turn.right c.args.x k.0 k.1 (period_is v) c.requires.x_bound in
    rw c.in-Turn.is
    (rw (pair_named (volume_of v) o.sound c.in-Turn.left c.in-Turn.right c.args.x k.0 k.1) at (T.arrives _ _ c.edge_duration-a.ensures c.edge_duration-b.ensures))
