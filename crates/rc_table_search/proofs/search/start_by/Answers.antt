use Rattle.std.proofs.Common.{◌∙◌, IfSome, None, Some, not, inr, ap, sym, subst}
use Rattle.std.proofs.lemmas.Result.{IfOk-weaker}
use Rattle.rc_table_search.specs.Views.{IsStart, IsStartBeside}
use Rattle.rc_table_search.specs.Searches.{BeginsAt}
use Rattle.rc_table_search.specs.Ways.{IsBeside, IsInSlice, offset_of}
use Rattle.rc_table_search.proofs.WayLemmas.{some_before}
use Rattle.rc_table_search.proofs.BesideLemmas.{byte_alone, byte_begins, byte_kept, symbol_begins, symbol_kept, symbol_needed, within_kept}
use Rattle.rc_table_search.proofs.search.start_by.Goals as goal
use Rattle.rc_table_search.proofs.search.start_by.Goals.{In-Some}

-- the byte stands beside the position, in the slice
there : (g : _) (c : In-Some g) → IsBeside (not g.W.Way.BACKWARDS) g.seen.content c.args.request.now.from c.in-Some.byte
    × IsInSlice (not g.W.Way.BACKWARDS) g.seen c.args.request.now.from
there g c =
    let r = c.requires.1.1.1.1.1.1.1.1 in (
      subst (λ k. IfSome k (IsBeside (not g.W.Way.BACKWARDS) g.seen.content c.args.request.now.from)) c.in-Some.is r.0,
      subst (λ k. IfSome k (λ _. IsInSlice (not g.W.Way.BACKWARDS) g.seen c.args.request.now.from)) c.in-Some.is r.1,
    )

pub returns-in_default-clause-cell : goal.returns-in_default-clause-cell
returns-in_default-clause-cell g c =
    let backwards = g.W.Way.BACKWARDS in
    let v = g.T.Transitions.view c.args.table.now backwards in
    let laws = g.met.T.Transitions.lawful c.args.table.now backwards in
    let q = c.args.request.now in
    IfOk-weaker c.start.result (IsStart v c.start.new.cache q.anchored None) (BeginsAt v backwards g.seen c.start.new.cache q.anchored q.from)
    (λ cell. byte_begins _ v laws backwards g.seen c.start.new.cache q.anchored q.from cell None (inr tt) (sym c.in_default.is ∙ c.requires.1.1.1.1.1.1.0))
    c.start.ensures.cell

pub symbol_at-symbol-requires-clause-low : goal.symbol_at-symbol-requires-clause-low
symbol_at-symbol-requires-clause-low g c =
    let t = there g (goal.at.symbol_at-symbol-requires-clause-low g c).In-Some in
    (within_kept (not g.W.Way.BACKWARDS) g.seen c.args.input.now c.requires.1.1.1.1.1.0 c.args.request.now.from c.offset.result
    (c.offset.ensures ∙ ap (λ k. offset_of (not k) c.args.request.now.from) c.BACKWARDS.ensures) t.1).0

pub symbol_at-symbol-requires-clause-high : goal.symbol_at-symbol-requires-clause-high
symbol_at-symbol-requires-clause-high g c =
    let t = there g (goal.at.symbol_at-symbol-requires-clause-high g c).In-Some in
    (within_kept (not g.W.Way.BACKWARDS) g.seen c.args.input.now c.requires.1.1.1.1.1.0 c.args.request.now.from c.offset.result
    (c.offset.ensures ∙ ap (λ k. offset_of (not k) c.args.request.now.from) c.BACKWARDS.ensures) t.1).1

pub symbol_at-symbol-requires-clause-there : goal.symbol_at-symbol-requires-clause-there
symbol_at-symbol-requires-clause-there g c =
    let t = there g (goal.at.symbol_at-symbol-requires-clause-there g c).In-Some in
    byte_kept (not g.W.Way.BACKWARDS) g.seen c.args.input.now c.requires.1.1.1.1.1.0 c.args.request.now.from c.offset.result
    (c.offset.ensures ∙ ap (λ k. offset_of (not k) c.args.request.now.from) c.BACKWARDS.ensures) c.in-Some.byte t.0

pub symbol_at-symbol-requires-clause-past : goal.symbol_at-symbol-requires-clause-past
symbol_at-symbol-requires-clause-past g c =
    (symbol_needed (g.T.Transitions.view c.args.table.now g.W.Way.BACKWARDS).alphabet c.in-Some.byte (sym c.needs_symbol.ensures ∙ c.if-needs_symbol.true)).1

pub returns-then-needs_symbol-clause-cell : goal.returns-then-needs_symbol-clause-cell
returns-then-needs_symbol-clause-cell g c =
    let backwards = g.W.Way.BACKWARDS in
    let v = g.T.Transitions.view c.args.table.now backwards in
    let laws = g.met.T.Transitions.lawful c.args.table.now backwards in
    let q = c.args.request.now in
    let t = there g (goal.at.returns-then-needs_symbol-clause-cell g c).In-Some in
    let are = (symbol_needed v.alphabet c.in-Some.byte (sym c.needs_symbol.ensures ∙ c.if-needs_symbol.true)).0 in
    let at = c.offset.ensures ∙ ap (λ k. offset_of (not k) q.from) c.BACKWARDS.ensures in
    IfOk-weaker c.start_beside.result (IsStartBeside v backwards c.start_beside.new.cache q.anchored c.symbol_at-symbol.result)
    (BeginsAt v backwards g.seen c.start_beside.new.cache q.anchored q.from)
    (λ cell. symbol_begins _ v laws backwards g.seen c.start_beside.new.cache q.anchored q.from cell c.symbol_at-symbol.result are
    (λ k. some_before (not backwards) g.seen.content q.from c.in-Some.byte t.0 (ap not k))
    (symbol_kept (not backwards) g.seen c.args.input.now c.requires.1.1.1.1.1.0 q.from c.offset.result at c.symbol_at-symbol.result c.symbol_at-symbol.ensures.symbol))
    (c.start_beside.ensures.cell are)

pub returns-clause-cell : goal.returns-clause-cell
returns-clause-cell g c =
    let backwards = g.W.Way.BACKWARDS in
    let v = g.T.Transitions.view c.args.table.now backwards in
    let laws = g.met.T.Transitions.lawful c.args.table.now backwards in
    let q = c.args.request.now in
    IfOk-weaker c.start-2.result (IsStart v c.start-2.new.cache q.anchored (Some c.in-Some.byte)) (BeginsAt v backwards g.seen c.start-2.new.cache q.anchored q.from)
    (λ cell. byte_begins _ v laws backwards g.seen c.start-2.new.cache q.anchored q.from cell (Some c.in-Some.byte)
    (byte_alone _ v laws backwards g.seen c.in-Some.byte (sym c.needs_symbol.ensures ∙ c.if-needs_symbol.false)) (sym c.in-Some.is ∙ c.requires.1.1.1.1.1.1.0))
    c.start-2.ensures.cell
