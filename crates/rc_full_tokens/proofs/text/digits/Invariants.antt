use Rattle.rc_tokens.specs.Text.{is_digit}
use Rattle.rc_tokens.proofs.RunLemmas.{Passed}
use Rattle.rc_full_tokens.proofs.text.digits.Given as goal

abbrev pub invariant-loop-i : goal.invariant-loop-i
invariant-loop-i l = Passed is_digit l.text l.i
