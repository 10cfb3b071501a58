use Rattle.rc_full_tokens.specs.Front.{is_not}
use Rattle.rc_tokens.proofs.RunLemmas.{Passed}
use Rattle.rc_full_tokens.proofs.text.until.Given as goal

abbrev pub invariant-loop-i : goal.invariant-loop-i
invariant-loop-i l = Passed (is_not l.fn.d) l.text l.i
