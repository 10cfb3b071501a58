use Rattle.std.proofs.Common.{◌≡◌, false, sym, subst, ap}
use Rattle.rc_text.specs.Text.{Keeps}
use Rattle.rc_table_search.specs.Searches.{HasRun, Origin}
use Rattle.rc_table_search.proofs.SpanLemmas.{kept_then}
use Rattle.rc_table_search.proofs.SearchLemmas.{over_run}
use Rattle.rc_table_search.proofs.MemoLemmas.{run_kept, memo_on}
use Rattle.rc_table_search.specs.MemoLaws.{memo_kept}
use Rattle.rc_table_search.proofs.again.search_again.Goals as goal
use Rattle.rc_table_search.proofs.again.search_again.Goals.{In-Through}

-- of the input only the chunk and the position changed
kept : (g : _) (c : In-Through g) → Keeps c.args.input.now c.begin.new.input
kept g c = kept_then c.args.input.now c.byte_beside-beside.new.input c.begin.new.input c.byte_beside-beside.ensures.keeps c.in-Through.ensures.keeps

pub run_on-requires-clause-memo : goal.run_on-requires-clause-memo
run_on-requires-clause-memo g c =
    let v = g.T.Transitions.view c.args.table.now false in
    let q = c.args.request.now in
    let begun : g.origin.begun ≡ c.args.cache.now = ap (λ (o : Origin _). o.begun) c.requires.1.1.1.0 in
    c.renew.ensures c.begin.new.input q.end q.extent.earliest
    (memo_kept v c.begin.new.cache c.args.input.now c.begin.new.input q.end q.extent.earliest c.args.memo.now
    (kept g (goal.at.run_on-requires-clause-memo g c).In-Through)
    (memo_on _ v (g.met.T.Transitions.lawful c.args.table.now false) c.args.cache.now c.begin.new.cache 1 c.args.input.now q.end q.extent.earliest c.args.memo.now
    c.requires.1.1.1.1.0 (subst (λ k. v.Spends k c.begin.new.cache 1) begun c.in-Through.ensures.begun.spends) c.requires.1.1.1.1.1.1.1.1.1))

pub returns-clause-over : goal.returns-clause-over
returns-clause-over g c =
    let v = g.T.Transitions.view c.args.table.now false in
    let laws = g.met.T.Transitions.lawful c.args.table.now false in
    let q = c.args.request.now in
    let seen : g.origin.seen ≡ c.args.input.now = ap (λ (o : Origin _). o.seen) c.requires.1.1.1.0 in
    over_run _ v laws false g.origin q c.begin.new.cache c.run_on.new.cache c.in-Through.stand c.run_on.result.read c.run_on.result.ended c.in-Through.ensures.begun
    (subst (λ s. HasRun v false (record { seen = s; begun = c.begin.new.cache; row = c.in-Through.stand.row }) q c.run_on.new.cache c.run_on.result.read c.run_on.result.ended) (sym seen)
    (run_kept _ v laws c.args.input.now c.begin.new.input (kept g (goal.at.returns-clause-over g c).In-Through) q c.begin.new.cache c.run_on.new.cache
    c.in-Through.stand.row c.run_on.result.read c.run_on.result.ended c.run_on.ensures.over))
