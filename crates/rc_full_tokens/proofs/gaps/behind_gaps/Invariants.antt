use Rattle.std.proofs.Common.{◌≡◌, false, drop}
use Rattle.rc_full_tokens.specs.Skips.{behind_gaps}
use Rattle.rc_full_tokens.proofs.gaps.behind_gaps.Given as goal

abbrev pub invariant-loop-i : goal.invariant-loop-i
invariant-loop-i l = behind_gaps false l.text ≡ behind_gaps l.in_comment (drop l.i l.text)
