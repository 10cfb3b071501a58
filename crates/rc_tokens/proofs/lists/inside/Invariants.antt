use Rattle.rc_tokens.proofs.InnerLemmas.{Within}
use Rattle.rc_tokens.proofs.lists.inside.Given as goal

abbrev pub invariant-loop-i : goal.invariant-loop-i
invariant-loop-i l = Within l.text l.i l.past_slash
