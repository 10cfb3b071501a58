use Rattle.std.proofs.Common.{◌-◌, false, sym, ◌∙◌, arith}
use Rattle.rc_table_search.proofs.MemoLemmas.{kept_same, mark_left, run_joined, run_marked, memo_on}
use Rattle.rc_table_search.proofs.again.+run_on.Goals as goal

pub returns-in-Some-clause-over : goal.returns-in-Some-clause-over
returns-in-Some-clause-over g t c =
    let v = g.T.Transitions.view c.args.table.now false in
    let laws = g.met.T.Transitions.lawful c.args.table.now false in
    let q = c.args.request.now in
    let leg = c.in-Through.ensures.leg in
    let memo = memo_on _ v laws c.args.cache.now c.stretch_from.new.cache (c.stop_after-until.result - q.from) c.args.input.now q.end q.extent.earliest c.args.memo.now
    c.requires.cache leg.spends c.requires.memo in
    run_marked _ v laws c.args.input.now c.args.input.now (kept_same c.args.input.now) q c.args.cache.now c.stretch_from.new.cache c.args.row c.stop_after-until.result c.in-Through.last
    leg c.stop_after-until.ensures.high c.requires.rests c.in-Some.mark c.joined.result c.in-Some.ensures.0 c.in-Some.ensures.1
    (c.in-Some.ensures.2 c.args.input.now q.end q.extent.earliest memo) c.joined.ensures

pub returns-clause-over : goal.returns-clause-over
returns-clause-over g t c =
    let v = g.T.Transitions.view c.args.table.now false in
    let laws = g.met.T.Transitions.lawful c.args.table.now false in
    run_joined _ v laws c.args.input.now c.stretch_from.new.input c.in-Through.ensures.keeps c.args.request.now c.args.cache.now c.stretch_from.new.cache c.args.row
    c.stop_after-until.result c.in-Through.last c.in-Through.ensures.leg c.stop_after-until.ensures.high c.requires.rests c.run_on-rest.new.cache c.run_on-rest.result
    c.run_on-rest.ensures.over c.joined-2.result c.joined-2.ensures

pub returns-clause-memo : goal.returns-clause-memo
returns-clause-memo g t c =
    let v = g.T.Transitions.view c.args.table.now false in
    let laws = g.met.T.Transitions.lawful c.args.table.now false in
    let q = c.args.request.now in
    c.leave.ensures.memo c.run_on-rest.new.input q.end q.extent.earliest c.run_on-rest.ensures.memo
    (λ known same below k is.
    let e = c.is_current-known.ensures known in
    let era = c.run_on-rest.ensures.era in
    mark_left _ v laws c.args.input.now c.stretch_from.new.input c.in-Through.ensures.keeps q c.args.cache.now c.stretch_from.new.cache c.args.row
    c.stop_after-until.result c.in-Through.last c.in-Through.ensures.leg c.stop_after-until.ensures.high c.requires.rests c.run_on-rest.new.cache c.run_on-rest.result
    c.run_on-rest.ensures.over c.run_on-rest.new.input c.run_on-rest.ensures.keeps k (same ∙ era ∙ sym e.0) (let t = e.0 in let lt = e.1 in omega (arith, t, lt)) is.0 is.1 is.2 is.3)
