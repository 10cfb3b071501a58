use Rattle.std.proofs.Common.{sym, subst}
use Rattle.std.proofs.lemmas.Result.{IfOk-weaker}
use Rattle.rc_determinize.specs.Places.{state_of}
use Rattle.rc_dfa.specs.Automata.{machine_of}
use Rattle.rc_dfa.specs.Symbols.{BeginsTagged}
use Rattle.rc_lazy_dfa.specs.Stores.{BeginsByLetter, frame_of}
use Rattle.rc_lazy_dfa.proofs.StepLemmas.{goes_so}
use Rattle.rc_lazy_dfa.proofs.letters.begin.Goals as goal

pub returns-in-Alone : goal.returns-in-Alone
returns-in-Alone c =
    let f = frame_of c.args.automaton.now c.args.direction in
    IfOk-weaker c.begin.result _ _ (λ x h. subst (λ y. BeginsByLetter f c.args.anchored y (state_of c.begin.new.to)) (sym c.in-Alone.is) h) c.begin.ensures

pub returns-in-Tagged : goal.returns-in-Tagged
returns-in-Tagged c =
    let a = c.args.automaton.now in
    let d = c.args.direction in
    IfOk-weaker c.begin_beside.result _ _
    (λ x h. subst (λ y. BeginsByLetter (frame_of a d) c.args.anchored y (state_of c.begin_beside.new.to)) (sym c.in-Tagged.is)
    (subst (λ b. BeginsTagged b (machine_of a d) c.args.anchored c.in-Tagged.symbol (state_of c.begin_beside.new.to)) (goes_so a d) h)) c.begin_beside.ensures
