use native.Mathlib.Omega.{arith}
use Rattle.search.specs.Steps.{no_start, no_destination, no_work, question, by_rule}
use Rattle.search.proofs.search_open.Goals as goal

pub returns-then-n-query : goal.returns-then-n-query
returns-then-n-query c =
    no_start c.args.opened.now.records.bytes.now c.args.query.from c.args.query.to c.args.query.departure c.args.query.budget c.args.work.now c.args.path.now c.args.opened.now.records.counts c.requires.opens c.if-n-query.true

pub returns-then-n-query-2 : goal.returns-then-n-query-2
returns-then-n-query-2 c =
    no_destination c.args.opened.now.records.bytes.now c.args.query.from c.args.query.to c.args.query.departure c.args.query.budget c.args.work.now c.args.path.now c.args.opened.now.records.counts c.requires.opens (omega arith) c.if-n-query-2.true

pub overflow_mul-n : goal.overflow_mul-n
overflow_mul-n c =
    let n = c.args.opened.now.sound.junctions_few in
    omega arith

pub returns-then-work-n : goal.returns-then-work-n
returns-then-work-n c =
    no_work c.args.opened.now.records.bytes.now c.args.query.from c.args.query.to c.args.query.departure c.args.query.budget c.args.work.now c.args.path.now c.args.opened.now.records.counts c.requires.opens (omega arith) (omega arith) c.if-work-n.true

pub apply_rule-r-requires : goal.apply_rule-r-requires
apply_rule-r-requires c = question c.args.opened.now.records.bytes.now c.args.query.from c.args.query.to c.args.query.departure c.args.query.budget c.args.work.now c.args.path.now c.args.opened.now.records.counts c.requires.opens (omega arith) (omega arith) (omega arith) c.requires.x_bound.0 c.requires.x_bound.1

pub returns : goal.returns
returns c =
    by_rule c.args.opened.now.records.bytes.now c.args.query.from c.args.query.to c.args.query.departure c.args.query.budget c.args.work.now c.args.path.now c.args.opened.now.records.counts c.requires.opens (omega arith) (omega arith) (omega arith) _ c.apply_rule-r.ensures c.clear.ensures
