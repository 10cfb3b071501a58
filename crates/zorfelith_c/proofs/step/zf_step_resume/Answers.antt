use Rattle.std.proofs.Common.{◌≡◌, ℕ, MatchOption, None, Option, Some, refl, rules, subst, sym}
use Rattle.stream_search.specs.Stepping.{Stepping}
use Rattle.searcher.specs.Searching.{Searching}
use Rattle.searcher.specs.declared.answers.MatchAt.{MatchAt}
use Rattle.zorfelith_c.specs.Statuses.{empty, no_stepper}
use Rattle.zorfelith_c.specs.Steps.{OfStepper, TellsSlice}
use Rattle.zorfelith_c.proofs.step.zf_step_resume.Goals as goal
use Rattle.zorfelith_c.proofs.step.zf_step_resume.Goals.{in-Some, in-None}

pub returns-clause-answered : goal.returns-clause-answered
returns-clause-answered c =
    let s = c.take-held.result.value in
    let t = c.match-take_stepper.held.value in
    let status = c.match-take_stepper.status in
    let found = c.match-take_stepper.found in
    let slice = TellsSlice c.args.chunks.now c.args.budget status found in
    let left : OfStepper s status t slice = elim c.match-take_stepper.branch [
      | in-Some w ↦
          let old = w.in-Some.stepper in
          let new = w.resume-status.new.stepper in
          let had : s.stepper ≡ Some old = search rules in
          let kept : t ≡ record s { stepper = Some new } = search rules in
          let told : slice old new =
          subst (λ (n : ℕ). TellsSlice c.args.chunks.now c.args.budget n found old new) (sym w.status-is)
          (subst (λ (m : MatchAt). TellsSlice c.args.chunks.now c.args.budget w.resume-status.result m old new) (sym w.found-is)
          w.resume-status.ensures.answered) in
          subst (λ (u : Searching). OfStepper s status u slice) (sym kept) (
            refl,
            subst (λ (o : Option Stepping). MatchOption o ((status ≡ no_stepper) × (Some new ≡ None)) (λ (x : Stepping). slice x new)) (sym had) told,
          )
      | in-None w ↦ search rules
    ] in
    subst (λ (o : Option Searching). MatchOption o ((status ≡ empty) × (c.of.result.held.value ≡ None))
    (λ (s : Searching). MatchOption c.of.result.held.value ⊥ (λ (t : Searching). OfStepper s status t slice)))
    (sym c.take-held.ensures.taken)
    (subst (λ (o : Option Searching). MatchOption o ⊥ (λ (t : Searching). OfStepper s status t slice)) (sym c.of.ensures) left)
