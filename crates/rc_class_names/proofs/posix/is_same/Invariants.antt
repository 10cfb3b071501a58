use Rattle.std.proofs.Common.{◌≡◌, drop}
use Rattle.rc_tokens.specs.Text.{same_text}
use Rattle.rc_class_names.proofs.posix.is_same.Given as goal

abbrev pub invariant-loop-i : goal.invariant-loop-i
invariant-loop-i l = same_text l.text l.other ≡ same_text (drop l.i l.text) (drop l.i l.other)
