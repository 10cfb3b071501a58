use Rattle.std.proofs.Common.{sym, subst}
use Rattle.std.proofs.lemmas.Result.{IfOk-weaker}
use Rattle.rc_determinize.specs.Places.{state_of}
use Rattle.rc_dfa.specs.Automata.{machine_of}
use Rattle.rc_dfa.specs.Symbols.{LeadsTagged}
use Rattle.rc_lazy_dfa.specs.Stores.{LeadsByLetter, frame_of}
use Rattle.rc_lazy_dfa.proofs.StepLemmas.{goes_so}
use Rattle.rc_lazy_dfa.proofs.letters.step.Goals as goal

pub returns-in-Alone-clause-leads : goal.returns-in-Alone-clause-leads
returns-in-Alone-clause-leads c =
    let f = frame_of c.args.automaton.now c.args.direction in
    IfOk-weaker c.step.result _ _ (λ x h. subst (λ y. LeadsByLetter f (state_of c.args.from.now) y (state_of c.step.new.to)) (sym c.in-Alone.is) h) c.step.ensures.leads

pub returns-in-Tagged-clause-leads : goal.returns-in-Tagged-clause-leads
returns-in-Tagged-clause-leads c =
    let a = c.args.automaton.now in
    let d = c.args.direction in
    IfOk-weaker c.step_over.result _ _
    (λ x h. subst (λ y. LeadsByLetter (frame_of a d) (state_of c.args.from.now) y (state_of c.step_over.new.to)) (sym c.in-Tagged.is)
    (subst (λ b. LeadsTagged b (machine_of a d) (state_of c.args.from.now) c.in-Tagged.symbol (state_of c.step_over.new.to)) (goes_so a d) h)) c.step_over.ensures.leads
