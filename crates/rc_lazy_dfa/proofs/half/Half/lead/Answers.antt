use Rattle.rc_determinize.specs.Places.{state_of}
use Rattle.rc_lazy_dfa.specs.Stores.{frame_of}
use Rattle.rc_lazy_dfa.proofs.RowLemmas.{row_state}
use Rattle.rc_lazy_dfa.proofs.StepLemmas.{below_by, led_by}
use Rattle.rc_lazy_dfa.proofs.half.Half.lead.Goals as goal

pub step-requires-clause-below : goal.step-requires-clause-below
step-requires-clause-below g c =
    let h = c.requires.1.0 in
    below_by g.f (frame_of c.args.automaton.now c.args.direction) (state_of c.get-from.result.now) c.requires.0 (h.held.within.each _ _ c.get-from.ensures)

pub returns-clause-leads : goal.returns-clause-leads
returns-clause-leads g c = λ s r.
    let h = c.requires.1.0 in
    let is = row_state g.f c.args.self.now.store h.held c.args.row s r (state_of c.get-from.result.now) c.get-from.ensures in
    led_by g.f (frame_of c.args.automaton.now c.args.direction) s (state_of c.get-from.result.now) (state_of c.step.new.to) c.args.letter c.requires.0 is
    c.in_ok-step.ensures.leads
