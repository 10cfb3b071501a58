use Rattle.std.proofs.Common.{◌≡◌, drop, true}
use Rattle.rc_full_tokens.specs.Flags.{flag_changes, no_change}
use Rattle.rc_full_tokens.proofs.flags.flag_changes.Given as goal

abbrev pub invariant-loop-i : goal.invariant-loop-i
invariant-loop-i l = flag_changes true no_change l.flags ≡ flag_changes l.on l.to (drop l.i l.flags)
