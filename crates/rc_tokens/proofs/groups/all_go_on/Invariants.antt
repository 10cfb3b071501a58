use Rattle.std.proofs.Common.{◌≡◌, drop}
use Rattle.rc_tokens.specs.Text.{each}
use Rattle.rc_tokens.specs.Marks.{goes_on_name}
use Rattle.rc_tokens.proofs.groups.all_go_on.Given as goal

abbrev pub invariant-loop-c : goal.invariant-loop-c
invariant-loop-c l = each goes_on_name l.text ≡ each goes_on_name (drop l.c-index l.text)
