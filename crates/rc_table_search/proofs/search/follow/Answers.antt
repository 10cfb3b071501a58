use Rattle.std.proofs.Common.{◌∙◌, IfErr, IfOk, not, sym, subst, ap}
use Rattle.rc_dfa.specs.declared.ended.Ended.TheVariants.{Idle}
use Rattle.rc_table_search.specs.Refusals.{is_memory}
use Rattle.rc_table_search.specs.Walks.{next_of}
use Rattle.rc_table_search.specs.Ways.{IsNext, IsOn, offset_of, span}
use Rattle.rc_table_search.specs.Searches.{HasLed, HasRun, IsAt, IsRowOf, LeadsAt, Outset}
use Rattle.rc_table_search.proofs.SpanLemmas.{left_on}
use Rattle.rc_table_search.proofs.SearchLemmas.{few_spent, over_refused, step_dies, step_early, step_goes, step_quits, step_rests}
use Rattle.rc_table_search.proofs.search.follow.Goals as goal
use Rattle.rc_table_search.proofs.search.follow.Goals.{In-Ok, Start}

within : (g : _) (c : Start g) (o : Outset g.row.T-Cache.Denot) → IsNext g.W.Way.BACKWARDS o.seen c.args.request.now.end c.args.at c.args.byte →
    IsOn g.W.Way.BACKWARDS c.args.at c.args.request.now.end
within g c o next = left_on g.W.Way.BACKWARDS c.args.at c.args.request.now.end next.left

-- where the cell leads
leads : (g : _) (c : In-Ok g) (o : Outset g.row.T-Cache.Denot)
    (led : HasLed (g.T.Transitions.view c.args.table.now g.W.Way.BACKWARDS) g.W.Way.BACKWARDS o c.args.request.now c.args.cache.now c.args.at c.args.stand c.args.cell) →
    LeadsAt (g.T.Transitions.view c.args.table.now g.W.Way.BACKWARDS) g.W.Way.BACKWARDS o.seen led.before c.args.cache.now c.args.at c.args.stand.row c.in-Ok.cell
leads g c o led =
    let v = g.T.Transitions.view c.args.table.now g.W.Way.BACKWARDS in
    subst (λ k. IfOk k (LeadsAt v g.W.Way.BACKWARDS o.seen led.before c.args.cache.now c.args.at c.args.stand.row)) c.in-Ok.is led.leads

pub returns-in-Err-clause-leg : goal.returns-in-Err-clause-leg
returns-in-Err-clause-leg g c = λ o led next.
    let backwards = g.W.Way.BACKWARDS in
    let v = g.T.Transitions.view c.args.table.now backwards in
    let laws = g.met.T.Transitions.lawful c.args.table.now backwards in
    let here = led.here in
    let on = within g (goal.at.returns-in-Err-clause-leg g c).Start o next in
    let refused = subst (λ k. IfErr k (λ e. v.GivesUp led.before c.args.cache.now 1 (is_memory e))) c.in-Err.is led.refused in
    over_refused _ v laws backwards o c.args.request.now led.before c.args.cache.now (span backwards c.args.request.now.from c.args.at) c.args.at c.args.at
    c.is_memory.result led.cache here.spends led.spends (subst (λ k. v.GivesUp led.before c.args.cache.now 1 k) (sym c.is_memory.ensures) refused)
    (few_spent _ v laws backwards o c.args.request.now c.args.at here.on on) here.on on

pub returns-then-cell-clause-leg : goal.returns-then-cell-clause-leg
returns-then-cell-clause-leg g c = λ o led next.
    let backwards = g.W.Way.BACKWARDS in
    step_quits _ (g.T.Transitions.view c.args.table.now backwards) (g.met.T.Transitions.lawful c.args.table.now backwards) backwards o c.args.request.now
    led.before c.args.cache.now c.args.at c.args.stand c.args.byte c.in-Ok.cell led.here led.cache led.spends (leads g (goal.at.returns-then-cell-clause-leg g c).In-Ok o led)
    (within g (goal.at.returns-then-cell-clause-leg g c).Start o next) c.step_on-read.result c.offset.result
    (λ e. c.step_on-read.ensures ∙ ap (λ k. next_of k c.args.at) e) c.if-cell.true next.there (c.offset.ensures ∙ ap (λ k. offset_of k c.args.at) c.BACKWARDS.ensures)

pub returns-then-has_died-clause-leg : goal.returns-then-has_died-clause-leg
returns-then-has_died-clause-leg g c = λ o led next.
    let backwards = g.W.Way.BACKWARDS in
    let v = g.T.Transitions.view c.args.table.now backwards in
    subst (λ k. HasRun v backwards o c.args.request.now c.args.cache.now k c.told-ended.result) (sym c.step_on-read.ensures)
    (step_dies _ v (g.met.T.Transitions.lawful c.args.table.now backwards) backwards o c.args.request.now
    led.before c.args.cache.now c.args.at c.args.stand c.args.byte c.in-Ok.cell led.here led.cache led.spends
    (leads g (goal.at.returns-then-has_died-clause-leg g c).In-Ok o led)
    (within g (goal.at.returns-then-has_died-clause-leg g c).Start o next) c.if-cell.false c.noted_by-noted.result c.noted_by-noted.ensures next.left c.told-ended.result
    (sym c.has_died.ensures ∙ c.if-has_died.true) c.told-ended.ensures)

pub returns-then-is_some-clause-leg : goal.returns-then-is_some-clause-leg
returns-then-is_some-clause-leg g c = λ o led next.
    let backwards = g.W.Way.BACKWARDS in
    let v = g.T.Transitions.view c.args.table.now backwards in
    subst (λ k. HasRun v backwards o c.args.request.now c.args.cache.now k c.told-ended-then-is_some.result) (sym c.step_on-read.ensures)
    (step_early _ v (g.met.T.Transitions.lawful c.args.table.now backwards) backwards o c.args.request.now
    led.before c.args.cache.now c.args.at c.args.stand c.args.byte c.in-Ok.cell led.here led.cache led.spends
    (leads g (goal.at.returns-then-is_some-clause-leg g c).In-Ok o led)
    (within g (goal.at.returns-then-is_some-clause-leg g c).Start o next) c.if-cell.false c.noted_by-noted.result c.noted_by-noted.ensures next.left
    c.told-ended-then-is_some.result c.if-extent.true (sym c.is_some.ensures ∙ c.if-is_some.true) c.told-ended-then-is_some.ensures)

pub returns-then-is_idle-clause-leg : goal.returns-then-is_idle-clause-leg
returns-then-is_idle-clause-leg g c = λ o led next.
    let backwards = g.W.Way.BACKWARDS in
    let v = g.T.Transitions.view c.args.table.now backwards in
    subst (λ k. HasRun v backwards o c.args.request.now c.args.cache.now k (Idle k)) (sym c.step_on-read.ensures)
    (step_rests _ v (g.met.T.Transitions.lawful c.args.table.now backwards) backwards o c.args.request.now
    led.before c.args.cache.now c.args.at c.args.stand c.args.byte c.in-Ok.cell led.here led.cache led.spends
    (leads g (goal.at.returns-then-is_idle-clause-leg g c).In-Ok o led)
    (within g (goal.at.returns-then-is_idle-clause-leg g c).Start o next) c.if-cell.false c.noted_by-noted.result c.noted_by-noted.ensures next.left
    (c.requires.rests c.if-extent-2.true) c.if-extent-2.true (sym c.has_died.ensures ∙ c.if-has_died.false) (c.is_none.ensures ∙ ap not c.if-is_none.true)
    (λ m s has. c.is_idle.ensures c.if-is_idle.true m s (subst (λ k. v.HasState c.args.cache.now m k s) (sym c.row_of-row.ensures) has)))

pub returns-clause-row : goal.returns-clause-row
returns-clause-row g c =
    let v = g.T.Transitions.view c.args.table.now g.W.Way.BACKWARDS in
    subst (λ k. v.IsRow c.args.cache.now k) (sym c.row_of-row.ensures)
    (subst (λ k. IfOk k (IsRowOf v c.args.cache.now)) c.in-Ok.is c.requires.row (sym c.has_died.ensures ∙ c.if-has_died.false))

pub returns-clause-leg : goal.returns-clause-leg
returns-clause-leg g c = λ o led next.
    let backwards = g.W.Way.BACKWARDS in
    let v = g.T.Transitions.view c.args.table.now backwards in
    subst (λ k. IsAt v backwards o c.args.request.now c.args.cache.now (next_of backwards c.args.at) (record { row = k; noted = c.noted_by-noted.result }))
    (sym c.row_of-row.ensures)
    (step_goes _ v (g.met.T.Transitions.lawful c.args.table.now backwards) backwards o c.args.request.now
    led.before c.args.cache.now c.args.at c.args.stand c.args.byte c.in-Ok.cell led.here led.cache led.spends (leads g (goal.at.returns-clause-leg g c).In-Ok o led)
    (within g (goal.at.returns-clause-leg g c).Start o next) c.if-cell.false c.noted_by-noted.result c.noted_by-noted.ensures next.left
    (sym c.has_died.ensures ∙ c.if-has_died.false))
