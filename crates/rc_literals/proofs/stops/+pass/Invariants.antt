use Rattle.rc_pattern.specs.Meaning.{meaning}
use Rattle.rc_literals.specs.Stops.{reads}
use Rattle.rc_literals.proofs.LeaveLemmas.{IsLeft}
use Rattle.rc_literals.proofs.stops.+pass.Given as goal

abbrev pub invariant-pass_each-loop-sub : goal.invariant-pass_each-loop-sub
invariant-pass_each-loop-sub l = IsLeft (λ h. reads (meaning h)) l.initial.table l.table l.subs l.sub-index
