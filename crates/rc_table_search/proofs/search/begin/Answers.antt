use Rattle.std.proofs.Common.{◌∙◌, IfSome, None, not, sym, subst, ap}
use Rattle.rc_table_search.specs.Ways.{IsBeside, offset_of}
use Rattle.rc_table_search.specs.Searches.{HasBegun}
use Rattle.rc_table_search.proofs.SearchLemmas.{begin_dies, begin_goes, begin_quits}
use Rattle.rc_table_search.proofs.search.begin.Goals as goal
use Rattle.rc_table_search.proofs.search.begin.Goals.{In-Ok}

spends : (g : _) (c : In-Ok g) → (g.T.Transitions.view c.args.table.now g.W.Way.BACKWARDS).Spends g.origin.begun c.start_by.new.cache 1
spends g c =
    let v = g.T.Transitions.view c.args.table.now g.W.Way.BACKWARDS in
    subst (λ k. v.Spends k c.start_by.new.cache 1) (sym c.requires.1.1.1.1.1.0) c.in-Ok.ensures.spends

pub returns-in-Some-clause-begun : goal.returns-in-Some-clause-begun
returns-in-Some-clause-begun g c =
    let backwards = g.W.Way.BACKWARDS in
    let r = c.requires.1.1.1.1.1.1.1.1 in
    let there = subst (λ k. IfSome k (IsBeside (not backwards) g.origin.seen.content c.args.request.now.from)) c.in-Some.is r.1.1.0 in
    begin_quits _ (g.T.Transitions.view c.args.table.now backwards) (g.met.T.Transitions.lawful c.args.table.now backwards) backwards g.origin c.args.request.now
    c.start_by.new.cache c.in-Ok.cell c.in-Ok.ensures.cache (spends g (goal.at.returns-in-Some-clause-begun g c).In-Ok) c.in-Ok.ensures.cell c.in-Some.byte
    c.offset.result c.if-cell.true there (c.offset.ensures ∙ ap (λ k. offset_of (not k) c.args.request.now.from) c.BACKWARDS.ensures)

pub returns-then-has_died-clause-begun : goal.returns-then-has_died-clause-begun
returns-then-has_died-clause-begun g c =
    let backwards = g.W.Way.BACKWARDS in
    begin_dies _ (g.T.Transitions.view c.args.table.now backwards) (g.met.T.Transitions.lawful c.args.table.now backwards) backwards g.origin c.args.request.now
    c.start_by.new.cache c.in-Ok.cell c.in-Ok.ensures.cache (spends g (goal.at.returns-then-has_died-clause-begun g c).In-Ok) c.in-Ok.ensures.cell
    c.if-cell.false (sym c.has_died.ensures ∙ c.if-has_died.true)

pub returns-clause-begun : goal.returns-clause-begun
returns-clause-begun g c =
    let backwards = g.W.Way.BACKWARDS in
    let v = g.T.Transitions.view c.args.table.now backwards in
    subst (λ k. HasBegun v backwards g.origin c.args.request.now c.start_by.new.cache (record { row = k; noted = None })) (sym c.row_of-row.ensures)
    (begin_goes _ v (g.met.T.Transitions.lawful c.args.table.now backwards) backwards g.origin c.args.request.now
    c.start_by.new.cache c.in-Ok.cell c.in-Ok.ensures.cache (spends g (goal.at.returns-clause-begun g c).In-Ok) c.in-Ok.ensures.cell
    c.if-cell.false (sym c.has_died.ensures ∙ c.if-has_died.false))
