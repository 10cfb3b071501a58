use Rattle.std.proofs.Common.{◌≡◌, ◌++◌, drop, map, true}
use Rattle.rc_pattern.specs.Meaning.{char_range}
use Rattle.rc_tokens.specs.ClassView.{pairs}
use Rattle.rc_tokens.specs.Classes.{AreCodes}
use Rattle.rc_parser.proofs.pieces.characters.Given as goal

abbrev pub invariant-loop-i : goal.invariant-loop-i
invariant-loop-i l = AreCodes true (pairs (drop l.i l.ranges)) × (pairs l.ranges ≡ map char_range l.all.items ++ pairs (drop l.i l.ranges))
