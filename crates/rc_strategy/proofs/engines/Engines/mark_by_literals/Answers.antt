use Rattle.std.proofs.Common.{◌≡◌, MatchOption, option_map, subst, sym, true≢false}
use Rattle.std.specs.Prelude.{IsSome}
use Rattle.std.specs.Bool.{⊤}
use Rattle.rc_text.specs.declared.types.MatchKind.TheVariants.{LeftmostFirst}
use Rattle.rc_program.specs.Places.{places_of}
use Rattle.rc_literals.specs.Answers.{owned_of}
use Rattle.rc_pikevm_search.specs.Literals.{AreAnswers}
use Rattle.rc_strategy.proofs.PatternLemmas.{owned_adds}
use Rattle.rc_strategy.proofs.engines.Engines.mark_by_literals.Goals as goal

pub returns-in-Some-clause-adds : goal.returns-in-Some-clause-adds
returns-in-Some-clause-adds g c =
    let e = c.args.self.now.engine in
    let places = places_of e.program.places.items in
    let some =
    subst (λ o. MatchOption o ⊤ (λ n. (e.kind ≡ LeftmostFirst) × AreAnswers places e.program.terminator e.program.passes_over (owned_of n.now)))
    c.in-Some.is (c.literals_of.ensures.sound places e.program.terminator e.program.passes_over e.sound) in
    owned_adds e (owned_of c.in-Some.needles.now) c.args.input.now c.args.set.now c.mark_owners.new.set c.requires.all some.1 c.mark_owners.ensures.adds

pub returns-in_default-clause-adds : goal.returns-in_default-clause-adds
returns-in_default-clause-adds g c =
    absurd (true≢false (sym (subst (λ o. IsSome (option_map (λ n. owned_of n.now) o)) c.in_default.is
    (subst IsSome (sym c.literals_of.ensures.value) c.requires.literals))))
