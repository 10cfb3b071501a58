use Rattle.std.proofs.Common.{refl, sym, MatchOption, subst}
use Rattle.std.proofs.lemmas.Result.{IfOk-weaker}
use Rattle.rc_pikevm_search.specs.Engine.{engine_search}
use Rattle.rc_strategy.proofs.KeptLemmas.{whole_found}
use Rattle.rc_strategy.proofs.QuestionLemmas.{match_replies, ok_then, tables_reply}
use Rattle.std.specs.Bool.{⊤}
use Rattle.rc_program.specs.Places.{places_of}
use Rattle.rc_literals.specs.Guard.{IsGuard}
use Rattle.rc_strategy.specs.Questions.{IsReply}
use Rattle.rc_strategy.proofs.engines.Engines.ask_by_route.Goals as goal

pub ask_from_start-requires-clause-free : goal.ask_from_start-requires-clause-free
ask_from_start-requires-clause-free g c = (c.route.ensures.from_start c.in-FromStart-default.is-0).0

pub ask_from_start-requires-clause-begins : goal.ask_from_start-requires-clause-begins
ask_from_start-requires-clause-begins g c = (c.route.ensures.from_start c.in-FromStart-default.is-0).1

pub find_from_end-requires-clause-free : goal.find_from_end-requires-clause-free
find_from_end-requires-clause-free g c = (c.route.ensures.from_end c.in-FromEnd-default.is-0).0

pub find_from_end-requires-clause-ends : goal.find_from_end-requires-clause-ends
find_from_end-requires-clause-ends g c = (c.route.ensures.from_end c.in-FromEnd-default.is-0).1

pub find_of_length-requires-clause-kind : goal.find_of_length-requires-clause-kind
find_of_length-requires-clause-kind g c = (c.in-OfLength-Match.ensures.of_length c.in-OfLength-Match.length refl).0

pub find_of_length-requires-clause-length : goal.find_of_length-requires-clause-length
find_of_length-requires-clause-length g c = (c.in-OfLength-Match.ensures.of_length c.in-OfLength-Match.length refl).1

pub returns-in-FromEnd-default-clause-reply : goal.returns-in-FromEnd-default-clause-reply
returns-in-FromEnd-default-clause-reply g c =
    let e = c.args.self.now.engine in
    ok_then c.find_from_end.result c.ok-in-FromEnd-default.result (IsReply c.args.question e.kind (engine_search e c.args.input.now)) c.ok-in-FromEnd-default.ensures.value
    (IfOk-weaker c.find_from_end.result _ _ (λ o h. match_replies c.args.question e.kind (engine_search e c.args.input.now) o h) c.find_from_end.ensures.found)

pub returns-in-OfLength-Match-clause-reply : goal.returns-in-OfLength-Match-clause-reply
returns-in-OfLength-Match-clause-reply g c =
    let e = c.args.self.now.engine in
    ok_then c.find_of_length.result c.ok-in-OfLength-Match.result (IsReply c.args.question e.kind (engine_search e c.args.input.now)) c.ok-in-OfLength-Match.ensures.value
    (IfOk-weaker c.find_of_length.result _ _ (λ o h. match_replies c.args.question e.kind (engine_search e c.args.input.now) o h) c.find_of_length.ensures.found)

pub returns-in-Some-clause-reply : goal.returns-in-Some-clause-reply
returns-in-Some-clause-reply g c =
    let e = c.args.self.now in
    let p = e.engine.program in
    let guards = subst (λ o. MatchOption o ⊤ (IsGuard (places_of p.places.items) p.terminator)) c.in-Some.is c.guard-guard.ensures.guard in
    ok_then c.find_by_guard.result c.ok-in-Some.result (IsReply c.args.question e.engine.kind (engine_search e.engine c.args.input.now)) c.ok-in-Some.ensures.value
    (tables_reply e.engine e.patterns c.args.input.now c.requires.own c.args.question c.aim_for-aim.result c.aim_for-aim.ensures c.find_by_guard.result
    (λ hs same h. c.find_by_guard.ensures.found hs p.terminator h (subst (λ ps. IsGuard ps p.terminator c.in-Some.guard) same guards)))

pub returns-in-Unguarded-Match-clause-reply : goal.returns-in-Unguarded-Match-clause-reply
returns-in-Unguarded-Match-clause-reply g c =
    let e = c.args.self.now.engine in
    ok_then c.find_unguarded.result c.ok.result (IsReply c.args.question e.kind (engine_search e c.args.input.now)) c.ok.ensures.value
    (IfOk-weaker c.find_unguarded.result _ _ (λ o h. match_replies c.args.question e.kind (engine_search e c.args.input.now) o h) c.find_unguarded.ensures.found)

pub returns-clause-reply : goal.returns-clause-reply
returns-clause-reply g c =
    let e = c.args.self.now in
    ok_then c.find_between.result c.ok-2.result (IsReply c.args.question e.engine.kind (engine_search e.engine c.args.input.now)) c.ok-2.ensures.value
    (tables_reply e.engine e.patterns c.args.input.now c.requires.own c.args.question c.aim_for-aim.result c.aim_for-aim.ensures c.find_between.result
    (λ hs same h. whole_found c.aim_for-aim.result hs e.engine.program.terminator c.args.input.now c.args.bounds.low c.requires.bounds.0 c.find_between.result
    (c.find_between.ensures.found hs e.engine.program.terminator h)))
