use Rattle.std.proofs.Common.{◌≡◌, drop}
use Rattle.rc_tokens.specs.Text.{each}
use Rattle.rc_full_tokens.specs.Names.{goes_on_name, is_group_name}
use Rattle.rc_full_tokens.proofs.names.is_group_name.Given as goal

abbrev pub invariant-loop-i : goal.invariant-loop-i
invariant-loop-i l = is_group_name l.name ≡ each goes_on_name (drop l.i l.name)
