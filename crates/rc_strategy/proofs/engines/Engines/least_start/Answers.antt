use Rattle.std.proofs.Common.{◌≡◌, ◌∙◌, false, ap, refl, subst, sym, ⊎_elim}
use Rattle.std.specs.Prelude.{is_some}
use Rattle.rc_text.specs.Found.{Found}
use Rattle.rc_program.specs.Kinds.{answer_by}
use Rattle.rc_pikevm_search.specs.Engine.{engine_search}
use Rattle.rc_strategy.specs.Lengths.{is_leftmost}
use Rattle.rc_strategy.proofs.PatternLemmas.{first_unpassed, no_span_of_all, none_unpassed}
use Rattle.rc_strategy.proofs.engines.Engines.least_start.Goals as goal

pub returns-in-Some-Some-clause-first : goal.returns-in-Some-Some-clause-first
returns-in-Some-Some-clause-first g c =
    let e = c.args.self.now.engine in
    first_unpassed e.kind (engine_search e c.args.input.now) c.in-Some-Some.field-0 c.in-Some-Some.found c.start.result
    (⊎_elim (λ a. ap is_leftmost a) (λ b. ap is_leftmost b) c.in-LeftmostFirst.is)
    c.in-Some-Some.ensures.found c.in-Some-Some.field-0-is
    (c.start.ensures.value ∙ ap (λ (m : Found). m.start) c.in-Some-Some.found-is)

pub returns-in-Some-None-clause-first : goal.returns-in-Some-None-clause-first
returns-in-Some-None-clause-first g c =
    let e = c.args.self.now.engine in
    none_unpassed e.kind (engine_search e c.args.input.now) (sym c.in-Some-None.field-0-is ∙ c.in-Some-None.ensures.found)

pub returns-in-Some-None-ask_dfas-clause-first : goal.returns-in-Some-None-ask_dfas-clause-first
returns-in-Some-None-ask_dfas-clause-first g c =
    let e = c.args.self.now.engine in
    no_span_of_all e.kind (engine_search e c.args.input.now) false c.in-All.is (subst (λ o. is_some o ≡ is_some (answer_by e.kind (engine_search e c.args.input.now)))
    c.in-Some-None-ask_dfas.field-0-is c.in-Some-None-ask_dfas.ensures.reply) refl
