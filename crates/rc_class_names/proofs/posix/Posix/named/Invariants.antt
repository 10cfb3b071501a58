use Rattle.std.proofs.Common.{◌≡◌, find, drop}
use Rattle.rc_tokens.specs.Text.{same_text}
use Rattle.rc_class_names.specs.Posix.{posix_name, posix_named, posix_classes}
use Rattle.rc_class_names.proofs.posix.Posix.named.Given as goal

abbrev pub invariant-loop-i : goal.invariant-loop-i
invariant-loop-i l = posix_named l.name ≡ find (λ class. same_text l.name (posix_name class)) (drop l.i posix_classes)
