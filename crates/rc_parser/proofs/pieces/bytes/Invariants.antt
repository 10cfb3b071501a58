use Rattle.std.proofs.Common.{◌≡◌, ◌++◌, drop, map, false}
use Rattle.rc_pattern.specs.Meaning.{byte_range}
use Rattle.rc_tokens.specs.ClassView.{pairs}
use Rattle.rc_tokens.specs.Classes.{AreCodes}
use Rattle.rc_parser.proofs.pieces.bytes.Given as goal

abbrev pub invariant-loop-i : goal.invariant-loop-i
invariant-loop-i l = AreCodes false (pairs (drop l.i l.ranges)) × (pairs l.ranges ≡ map byte_range l.all.items ++ pairs (drop l.i l.ranges))
