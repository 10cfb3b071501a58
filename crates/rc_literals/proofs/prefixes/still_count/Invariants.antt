use Rattle.std.proofs.Common.{◌≡◌, drop}
use Rattle.rc_pattern.specs.Meaning.{meaning}
use Rattle.rc_literals.proofs.ExtractionLemmas.{of_members}
use Rattle.rc_literals.proofs.prefixes.still_count.Given as goal

abbrev pub invariant-loop-i : goal.invariant-loop-i
invariant-loop-i l = of_members meaning l.subs ≡ of_members meaning (drop l.i l.subs)
