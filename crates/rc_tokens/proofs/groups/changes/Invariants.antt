use Rattle.std.proofs.Common.{◌≡◌, drop, true}
use Rattle.rc_tokens.specs.Marks.{change_of, unchanged}
use Rattle.rc_tokens.proofs.groups.changes.Given as goal

abbrev pub invariant-loop-i : goal.invariant-loop-i
invariant-loop-i l = change_of true unchanged l.flags ≡ change_of l.on l.to (drop l.i l.flags)
