use Rattle.std.proofs.Common.{◌≡◌, drop}
use Rattle.rc_tokens.specs.Text.{each}
use Rattle.rc_tokens.specs.Marks.{goes_on_name}
use Rattle.chunk_replace.proofs.marks.all_go_on.Given as goal

abbrev pub invariant-loop-b : goal.invariant-loop-b
invariant-loop-b l = each goes_on_name l.bytes ≡ each goes_on_name (drop l.b-index l.bytes)
