use Rattle.std.proofs.Common.{sym}
use Rattle.rc_tokens.proofs.TextLemmas.{same_lengths}
use Rattle.rc_class_names.proofs.posix.is_same.Goals as goal

pub returns-then-text-other : goal.returns-then-text-other
returns-then-text-other c = sym (same_lengths _ _ c.if-text-other.true)
