use Rattle.std.proofs.Common.{◌≡◌, take, drop}
use Rattle.rc_class_names.specs.Properties.{parted_at}
use Rattle.rc_class_names.proofs.NameLemmas.{led}
use Rattle.rc_class_names.proofs.properties.parted_at.Given as goal

abbrev pub invariant-loop-i : goal.invariant-loop-i
invariant-loop-i l = parted_at l.sign l.text ≡ led (take l.i l.text) (parted_at l.sign (drop l.i l.text))
