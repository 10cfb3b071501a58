use Rattle.std.proofs.Common.{◌≡◌}
use Rattle.rc_explain.specs.Shown.{byte_of}
use Rattle.rc_explain.proofs.places.byte_after.Given as goal

abbrev pub invariant-loop-i : goal.invariant-loop-i
invariant-loop-i l = l.seen ≡ byte_of l.text l.i
