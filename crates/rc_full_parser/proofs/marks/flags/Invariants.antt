use Rattle.rc_tokens.specs.Lexer.{is_before}
use Rattle.rc_tokens.proofs.RunLemmas.{Passed}
use Rattle.rc_full_parser.proofs.marks.flags.Given as goal

abbrev pub invariant-loop-i : goal.invariant-loop-i
invariant-loop-i l = Passed (is_before 41 58) l.text l.i
