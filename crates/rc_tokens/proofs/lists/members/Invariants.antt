use Rattle.std.proofs.Common.{length}
use Rattle.rc_tokens.proofs.MemberLemmas.{Reading}
use Rattle.rc_tokens.proofs.lists.members.Given as goal

abbrev pub invariant-loop-rest : goal.invariant-loop-rest
invariant-loop-rest l = Reading l.fn.text l.all.items l.rest

abbrev pub decreases-loop-rest : goal.decreases-loop-rest
decreases-loop-rest l = length l.rest
