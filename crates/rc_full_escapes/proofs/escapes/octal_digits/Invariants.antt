use Rattle.rc_tokens.proofs.RunLemmas.{Passed}
use Rattle.rc_full_escapes.specs.Escapes.{is_octal}
use Rattle.rc_full_escapes.proofs.escapes.octal_digits.Given as goal

abbrev pub invariant-loop-i : goal.invariant-loop-i
invariant-loop-i l = Passed is_octal l.text l.i
