use Rattle.rc_tokens.specs.Lexer.{is_before}
use Rattle.rc_tokens.proofs.RunLemmas.{Passed}
use Rattle.rc_tokens.proofs.text.until.Given as goal

abbrev pub invariant-loop-i : goal.invariant-loop-i
invariant-loop-i l = Passed (is_before l.fn.d l.fn.e) l.text l.i
