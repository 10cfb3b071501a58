use Rattle.unicode.specs.Binary.{is_white_space}
use Rattle.rc_tokens.proofs.RunLemmas.{Passed}
use Rattle.rc_full_tokens.proofs.text.behind_blanks.Given as goal

abbrev pub invariant-loop-i : goal.invariant-loop-i
invariant-loop-i l = Passed is_white_space l.text l.i
