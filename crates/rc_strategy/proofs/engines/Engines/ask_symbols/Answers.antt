use Rattle.std.proofs.Common.{IfSome, MatchOption, subst}
use Rattle.std.specs.Bool.{⊤}
use Rattle.std.proofs.lemmas.Result.{IfOk-weaker}
use Rattle.rc_needles.specs.Guards.{Guards}
use Rattle.rc_needles.specs.Prefilters.{needles_of}
use Rattle.rc_program.specs.Places.{places_of}
use Rattle.rc_lazy_dfa.specs.Caches.{AreHalves}
use Rattle.rc_pikevm_search.specs.Engine.{engine_search}
use Rattle.rc_strategy.specs.Questions.{IsReply}
use Rattle.rc_strategy.specs.Tables.{AreHalvesFor}
use Rattle.rc_strategy.specs.declared.question.Question.TheVariants.{Match}
use Rattle.rc_strategy.proofs.QuestionLemmas.{match_replies, ok_then, tables_may}
use Rattle.rc_strategy.proofs.engines.Engines.ask_symbols.Goals as goal

pub returns-in-Unguarded-Match-None-clause-reply : goal.returns-in-Unguarded-Match-None-clause-reply
returns-in-Unguarded-Match-None-clause-reply g c =
    let e = c.args.self.now.engine in
    ok_then c.find_unguarded.result c.ok-in-Unguarded-Match-None.result (IsReply c.args.question e.kind (engine_search e c.args.input.now)) c.ok-in-Unguarded-Match-None.ensures.value
    (IfOk-weaker c.find_unguarded.result _ _ (λ o h. match_replies c.args.question e.kind (engine_search e c.args.input.now) o h) c.find_unguarded.ensures.found)

pub returns-in-Unguarded-Match-Some-clause-reply : goal.returns-in-Unguarded-Match-Some-clause-reply
returns-in-Unguarded-Match-Some-clause-reply g c =
    let e = c.args.self.now in
    let p = e.engine.program in
    let own = subst (λ o. ∥ IfSome o (λ l. AreHalvesFor e.engine e.patterns (AreHalves l)) ∥₁) c.in-Some.is e.symbols_fit in
    let guards = subst (λ o. MatchOption o ⊤ (λ n. Guards (places_of p.places.items) p.terminator (needles_of n.now))) c.in-Unguarded-Match-Some.is-2
    (c.guards_of-needles.ensures.sound (places_of p.places.items) p.terminator p.passes_over e.engine.sound) in
    ok_then c.find_by_guard.result c.ok.result (IsReply c.args.question e.engine.kind (engine_search e.engine c.args.input.now)) c.ok.ensures.value
    (IfOk-weaker c.find_by_guard.result _ _ (λ o h. match_replies c.args.question e.engine.kind (engine_search e.engine c.args.input.now) o h)
    (tables_may e.engine e.patterns c.args.input.now own Match c.aim.result c.aim.ensures c.find_by_guard.result
    (λ hs same h. c.find_by_guard.ensures.found hs p.terminator h
    (subst (λ ps. Guards ps p.terminator (needles_of c.in-Unguarded-Match-Some.needles.now)) same guards))))
