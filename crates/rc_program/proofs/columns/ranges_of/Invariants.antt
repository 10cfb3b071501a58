use Rattle.std.proofs.Common.{◌≡◌, ◌++◌, drop}
use Rattle.rc_program.specs.Columns.{ranges_of, ranges_from}
use Rattle.rc_program.specs.Places.{places_of}
use Rattle.rc_program.proofs.columns.ranges_of.Given as goal

abbrev pub invariant-loop-place : goal.invariant-loop-place
invariant-loop-place l = ranges_of (places_of l.places) ≡ l.ranges.items ++ ranges_from l.range (places_of (drop l.place-index l.places))
