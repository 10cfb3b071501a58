use Rattle.std.proofs.Common.{None, ap}
use Rattle.std.specs.Prelude.{is_none}
use Rattle.rc_dfa_search.proofs.ToldLemmas.{kept_then}
use Rattle.rc_pikevm_search.specs.Engine.{engine_search}
use Rattle.rc_strategy.proofs.KeptLemmas.{within_kept}
use Rattle.rc_strategy.proofs.QuestionLemmas.{match_replies}
use Rattle.rc_strategy.proofs.SpanLemmas.{early_none}
use Rattle.rc_strategy.proofs.engines.Engines.ask_once.Goals as goal

pub returns-in_default-clause-reply : goal.returns-in_default-clause-reply
returns-in_default-clause-reply g c =
    let e = c.args.self.now in
    match_replies c.args.question e.engine.kind (engine_search e.engine c.args.input.now) None
    (early_none e.engine e.spans c.args.input.now (is_none c.bounds.result) e.bound c.bounds.ensures.value (ap is_none c.in_default.is))

pub returns-clause-within : goal.returns-clause-within
returns-clause-within g c =
    within_kept c.args.input.now c.ask_symbols-told.new.input c.ask_pass-found.result
    (kept_then c.args.input.now c.ask_tables-told.new.input c.ask_symbols-told.new.input
    (kept_then c.args.input.now c.bounds.new.input c.ask_tables-told.new.input c.bounds.ensures.keeps c.ask_tables-told.ensures.keeps) c.ask_symbols-told.ensures.keeps)
    c.ask_pass-found.ensures.within
