use Rattle.std.proofs.Common.{◌≡◌, ◌∙◌, MatchOption, ap, sym, subst}
use Rattle.std.specs.Bool.{⊤}
use Rattle.rc_text.specs.declared.types.MatchKind.TheVariants.{LeftmostFirst}
use Rattle.rc_program.specs.Places.{places_of}
use Rattle.rc_program.specs.Kinds.{answer_by}
use Rattle.rc_literals.specs.Answers.{owned_of}
use Rattle.rc_pikevm_search.specs.Literals.{AreAnswers}
use Rattle.rc_pikevm_search.specs.Engine.{engine_search}
use Rattle.rc_pikevm_search.proofs.engine.Engine.find.Goals as goal

pub returns-in-Some-clause-found : goal.returns-in-Some-clause-found
returns-in-Some-clause-found g c =
    let places = places_of c.args.self.now.program.places.items in
    let all = c.literals_of.ensures.sound places c.args.self.now.program.terminator c.args.self.now.program.passes_over c.args.self.now.sound in
    let some =
    subst
    (λ o. MatchOption o ⊤ (λ n. (c.args.self.now.kind ≡ LeftmostFirst) × AreAnswers places c.args.self.now.program.terminator c.args.self.now.program.passes_over (owned_of n.now)))
    c.in-Some.is all in
    c.search.ensures.value ∙ sym (some.1 c.args.input.now)
    ∙ ap (λ k. answer_by k (engine_search c.args.self.now c.args.input.now)) (sym some.0)

pub find_by_kind-requires-clause-guarded : goal.find_by_kind-requires-clause-guarded
find_by_kind-requires-clause-guarded g c =
    c.guards_of.ensures.sound (places_of c.args.self.now.program.places.items) c.args.self.now.program.terminator c.args.self.now.program.passes_over c.args.self.now.sound
