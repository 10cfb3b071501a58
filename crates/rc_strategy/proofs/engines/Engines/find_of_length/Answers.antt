use Rattle.std.proofs.Common.{◌≡◌, ◌∙◌, ◌-◌, ◌≤◌, Some, IfSome, ap, subst, sym}
use Rattle.std.specs.Option.{option_map}
use Rattle.rc_text.specs.Found.{Found, half_of}
use Rattle.rc_text.specs.Bounds.{IsWithinBounds}
use Rattle.rc_text.specs.Text.{low}
use Rattle.rc_pikevm_search.specs.Engine.{engine_search}
use Rattle.rc_program.specs.Kinds.{answer_by}
use Rattle.rc_strategy.proofs.QuestionLemmas.{none_by_half}
use Rattle.rc_strategy.proofs.SpanLemmas.{length_told, of_length}
use Rattle.rc_strategy.proofs.engines.Engines.find_of_length.Given.{Over}
use Rattle.rc_strategy.proofs.engines.Engines.find_of_length.Goals as goal
use Rattle.rc_strategy.proofs.engines.Engines.find_of_length.Goals.{After-new}

made : (g : Over) (c : After-new g) → c.new.result ≡ of_length c.args.length (half_of c.in-Some.found)
made g c =
    let found = c.in-Some.found in
    c.new.ensures
    ∙ ap (λ p. let m : Found = record { pattern = p; start = c.saturating_sub-start.result; end = c.end-end.result } in m) c.pattern.ensures.value
    ∙ ap (λ x. let m : Found = record { pattern = found.pattern; start = x; end = c.end-end.result } in m) c.saturating_sub-start.ensures
    ∙ ap (λ e. let m : Found = record { pattern = found.pattern; start = e - c.args.length; end = e } in m) c.end-end.ensures.value

told : (g : Over) (c : After-new g) →
    (Some (of_length c.args.length (half_of c.in-Some.found)) ≡ answer_by c.args.self.now.engine.kind (engine_search c.args.self.now.engine c.args.input.now))
    × (low c.args.input.now ≤ c.in-Some.found.end - c.args.length) × (c.in-Some.found.end - c.args.length ≤ c.in-Some.found.end)
told g c =
    let e = c.args.self.now in
    length_told e.engine e.spans c.args.input.now c.args.length e.bound c.requires.length (half_of c.in-Some.found)
    (ap (λ o. option_map half_of o) (sym c.in-Some.is) ∙ c.in_ok-found.ensures.reply)

pub returns-clause-found : goal.returns-clause-found
returns-clause-found g c = ap (λ (m : Found). Some m) (made g c) ∙ (told g c).0

pub returns-clause-within : goal.returns-clause-within
returns-clause-within g c =
    let t = told g c in
    let found = subst (λ o. IfSome o (IsWithinBounds c.args.input.now)) c.in-Some.is c.in_ok-found.ensures.within in
    subst (IsWithinBounds c.args.input.now) (sym (made g c))
    (t.1, t.2, found.2)

pub returns-in_default-clause-found : goal.returns-in_default-clause-found
returns-in_default-clause-found g c =
    let e = c.args.self.now.engine in
    none_by_half (answer_by e.kind (engine_search e c.args.input.now)) (ap (λ o. option_map half_of o) (sym c.in_default.is) ∙ c.in_ok-found.ensures.reply)
