use Rattle.std.proofs.Common.{◌∙◌, ap, sym}
use Rattle.std.proofs.lemmas.Result.{IfOk-weaker}
use Rattle.rc_table_search.specs.Views.{IsStep, IsStepOver}
use Rattle.rc_table_search.specs.Searches.{LeadsAt}
use Rattle.rc_table_search.specs.Ways.{offset_of}
use Rattle.rc_table_search.proofs.WayLemmas.{some_before}
use Rattle.rc_table_search.proofs.BesideLemmas.{byte_alone, byte_kept, byte_leads, symbol_kept, symbol_leads, symbol_needed, within_kept}
use Rattle.rc_table_search.proofs.search.cell_on.Goals as goal

pub symbol_at-symbol-requires-clause-low : goal.symbol_at-symbol-requires-clause-low
symbol_at-symbol-requires-clause-low g c =
    let r = c.requires.1.1.1.1.1.1 in
    (within_kept g.W.Way.BACKWARDS g.seen c.args.input.now r.0 c.args.at c.offset.result
    (c.offset.ensures ∙ ap (λ k. offset_of k c.args.at) c.BACKWARDS.ensures) r.1.1).0

pub symbol_at-symbol-requires-clause-high : goal.symbol_at-symbol-requires-clause-high
symbol_at-symbol-requires-clause-high g c =
    let r = c.requires.1.1.1.1.1.1 in
    (within_kept g.W.Way.BACKWARDS g.seen c.args.input.now r.0 c.args.at c.offset.result
    (c.offset.ensures ∙ ap (λ k. offset_of k c.args.at) c.BACKWARDS.ensures) r.1.1).1

pub symbol_at-symbol-requires-clause-there : goal.symbol_at-symbol-requires-clause-there
symbol_at-symbol-requires-clause-there g c =
    let r = c.requires.1.1.1.1.1.1 in
    byte_kept g.W.Way.BACKWARDS g.seen c.args.input.now r.0 c.args.at c.offset.result
    (c.offset.ensures ∙ ap (λ k. offset_of k c.args.at) c.BACKWARDS.ensures) c.args.byte r.1.0

pub symbol_at-symbol-requires-clause-past : goal.symbol_at-symbol-requires-clause-past
symbol_at-symbol-requires-clause-past g c =
    (symbol_needed (g.T.Transitions.view c.args.table.now g.W.Way.BACKWARDS).alphabet c.args.byte (sym c.needs_symbol.ensures ∙ c.if-needs_symbol.true)).1

pub returns-then-needs_symbol-clause-cell : goal.returns-then-needs_symbol-clause-cell
returns-then-needs_symbol-clause-cell g c =
    let backwards = g.W.Way.BACKWARDS in
    let v = g.T.Transitions.view c.args.table.now backwards in
    let laws = g.met.T.Transitions.lawful c.args.table.now backwards in
    let r = c.requires.1.1.1.1.1.1 in
    let are = (symbol_needed v.alphabet c.args.byte (sym c.needs_symbol.ensures ∙ c.if-needs_symbol.true)).0 in
    let at = c.offset.ensures ∙ ap (λ k. offset_of k c.args.at) c.BACKWARDS.ensures in
    IfOk-weaker c.next_over.result (IsStepOver v backwards c.args.cache.now c.next_over.new.cache c.args.row c.symbol_at-symbol.result)
    (LeadsAt v backwards g.seen c.args.cache.now c.next_over.new.cache c.args.at c.args.row)
    (λ cell. symbol_leads _ v laws backwards g.seen c.args.cache.now c.next_over.new.cache c.args.at c.args.row cell c.symbol_at-symbol.result are
    (some_before backwards g.seen.content c.args.at c.args.byte r.1.0)
    (symbol_kept backwards g.seen c.args.input.now r.0 c.args.at c.offset.result at c.symbol_at-symbol.result c.symbol_at-symbol.ensures.symbol))
    (c.next_over.ensures.cell are)

pub returns-clause-cell : goal.returns-clause-cell
returns-clause-cell g c =
    let backwards = g.W.Way.BACKWARDS in
    let v = g.T.Transitions.view c.args.table.now backwards in
    let laws = g.met.T.Transitions.lawful c.args.table.now backwards in
    let r = c.requires.1.1.1.1.1.1.1 in
    IfOk-weaker c.next.result (IsStep v c.args.cache.now c.next.new.cache c.args.row c.args.byte)
    (LeadsAt v backwards g.seen c.args.cache.now c.next.new.cache c.args.at c.args.row)
    (λ cell. byte_leads _ v laws backwards g.seen c.args.cache.now c.next.new.cache c.args.at c.args.row c.args.byte cell
    (byte_alone _ v laws backwards g.seen c.args.byte (sym c.needs_symbol.ensures ∙ c.if-needs_symbol.false)) r.1 r.0) c.next.ensures.cell
