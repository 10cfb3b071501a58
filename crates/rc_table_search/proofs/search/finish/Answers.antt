use Rattle.std.proofs.Common.{◌≡◌, ◌+◌, ◌∙◌, refl, sym, subst, ap}
use Rattle.rc_program.specs.Sought.{text_of}
use Rattle.rc_table_search.specs.Ways.{IsBeside, beside_at, offset_of, span}
use Rattle.rc_table_search.proofs.SpanLemmas.{beside_kept, on_here}
use Rattle.rc_table_search.proofs.SearchLemmas.{end_met, end_told, few_spent, over_refused, step_bounded, step_quits}
use Rattle.rc_table_search.proofs.search.finish.Goals as goal
use Rattle.rc_table_search.proofs.search.finish.Goals.{After-byte_beside}

-- the byte beyond, or none
beside : (g : _) (c : After-byte_beside g) → c.byte_beside.result ≡ beside_at g.W.Way.BACKWARDS (text_of 0 g.outset.seen) c.args.request.now.end
beside g c =
    subst (λ k. c.byte_beside.result ≡ beside_at k (text_of 0 g.outset.seen) c.args.request.now.end) c.BACKWARDS.ensures
    (c.byte_beside.ensures.value ∙ beside_kept c.BACKWARDS.result 0 g.outset.seen c.args.input.now c.args.request.now.end c.requires.1.1.1.1.1.0)

pub returns-in-Ok-Some-clause-over : goal.returns-in-Ok-Some-clause-over
returns-in-Ok-Some-clause-over g c =
    let backwards = g.W.Way.BACKWARDS in
    end_met _ (g.T.Transitions.view c.args.table.now backwards) (g.met.T.Transitions.lawful c.args.table.now backwards) backwards g.outset c.args.request.now
    c.args.cache.now c.at_end.new.cache c.args.stand c.requires.1.1.1.1.0 c.in-Ok-Some.ensures.cache c.in-Ok-Some.ensures.spends
    (sym (beside g (goal.at.returns-in-Ok-Some-clause-over g c).After-byte_beside) ∙ c.in_default.is) c.in-Ok-Some.field-0 c.in-Ok-Some.ensures.found
    c.in-Ok-Some.found c.met_at.result c.in-Ok-Some.field-0-is c.met_at.ensures

pub returns-in-Ok-None-clause-over : goal.returns-in-Ok-None-clause-over
returns-in-Ok-None-clause-over g c =
    let backwards = g.W.Way.BACKWARDS in
    end_told _ (g.T.Transitions.view c.args.table.now backwards) (g.met.T.Transitions.lawful c.args.table.now backwards) backwards g.outset c.args.request.now
    c.args.cache.now c.at_end.new.cache c.args.stand c.requires.1.1.1.1.0 c.in-Ok-None.ensures.cache c.in-Ok-None.ensures.spends
    (sym (beside g (goal.at.returns-in-Ok-None-clause-over g c).After-byte_beside) ∙ c.in_default.is) c.in-Ok-None.field-0 c.in-Ok-None.ensures.found
    c.told.result c.in-Ok-None.field-0-is c.told.ensures

pub returns-in-Err-clause-over : goal.returns-in-Err-clause-over
returns-in-Err-clause-over g c =
    let backwards = g.W.Way.BACKWARDS in
    let v = g.T.Transitions.view c.args.table.now backwards in
    let laws = g.met.T.Transitions.lawful c.args.table.now backwards in
    let q = c.args.request.now in
    let here = c.requires.1.1.1.1.0 in
    over_refused _ v laws backwards g.outset q c.args.cache.now c.at_end.new.cache (span backwards q.from q.end) q.end (q.end + 1)
    c.is_memory.result c.in-Err.ensures.cache here.spends c.in-Err.ensures.spends
    (subst (λ k. v.GivesUp c.args.cache.now c.at_end.new.cache 1 k) (sym c.is_memory.ensures) c.in-Err.ensures.refused)
    (few_spent _ v laws backwards g.outset q q.end here.on (on_here backwards q.end)) here.on (on_here backwards q.end)

pub returns-in-Err-cell_on-clause-over : goal.returns-in-Err-cell_on-clause-over
returns-in-Err-cell_on-clause-over g c =
    let backwards = g.W.Way.BACKWARDS in
    let v = g.T.Transitions.view c.args.table.now backwards in
    let laws = g.met.T.Transitions.lawful c.args.table.now backwards in
    let q = c.args.request.now in
    let here = c.requires.1.1.1.1.0 in
    over_refused _ v laws backwards g.outset q c.args.cache.now c.cell_on.new.cache (span backwards q.from q.end) q.end (q.end + 1)
    c.is_memory-in-Err-cell_on.result c.in-Err-cell_on.ensures.cache here.spends c.in-Err-cell_on.ensures.spends
    (subst (λ k. v.GivesUp c.args.cache.now c.cell_on.new.cache 1 k) (sym c.is_memory-in-Err-cell_on.ensures) c.in-Err-cell_on.ensures.refused)
    (few_spent _ v laws backwards g.outset q q.end here.on (on_here backwards q.end)) here.on (on_here backwards q.end)

pub returns-then-cell-clause-over : goal.returns-then-cell-clause-over
returns-then-cell-clause-over g c =
    let backwards = g.W.Way.BACKWARDS in
    let q = c.args.request.now in
    let r = c.requires.1.1.1.1 in
    let there = subst (λ k. IsBeside k g.outset.seen.content q.end c.in-Some.byte) c.BACKWARDS.ensures
    (subst (λ xs. IsBeside c.BACKWARDS.result xs q.end c.in-Some.byte) r.1.0.content c.in-Some.ensures.there) in
    step_quits _ (g.T.Transitions.view c.args.table.now backwards) (g.met.T.Transitions.lawful c.args.table.now backwards) backwards g.outset q
    c.args.cache.now c.cell_on.new.cache q.end c.args.stand c.in-Some.byte c.in-Ok.cell r.0 c.in-Ok.ensures.cache c.in-Ok.ensures.spends c.in-Ok.ensures.cell
    (on_here backwards q.end) (q.end + 1) c.offset.result
    (λ _. refl) c.if-cell.true there (c.offset.ensures ∙ ap (λ k. offset_of k q.end) c.BACKWARDS-then-cell.ensures)

pub returns-clause-over : goal.returns-clause-over
returns-clause-over g c =
    let backwards = g.W.Way.BACKWARDS in
    let q = c.args.request.now in
    step_bounded _ (g.T.Transitions.view c.args.table.now backwards) (g.met.T.Transitions.lawful c.args.table.now backwards) backwards g.outset q
    c.args.cache.now c.cell_on.new.cache q.end c.args.stand c.in-Some.byte c.in-Ok.cell c.requires.1.1.1.1.0 c.in-Ok.ensures.cache c.in-Ok.ensures.spends c.in-Ok.ensures.cell
    (on_here backwards q.end) c.if-cell.false c.noted_by.result c.noted_by.ensures
    c.told-2.result refl c.told-2.ensures
