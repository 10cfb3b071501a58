use Rattle.std.proofs.Common.{◌≡◌, ℕ, ◌++◌, length, drop, map}
use Rattle.rc_pattern.specs.Meaning.{byte_range}
use Rattle.rc_determinize.specs.Reversed.{into_at, range_edges}
use Rattle.rc_determinize.proofs.backward.Reversed.keep_ranges.Given as goal

abbrev pub invariant-loop-range : goal.invariant-loop-range
invariant-loop-range l =
    (length l.self.into.items ≡ length l.fn.self.into.items) × ((p : ℕ) →
    into_at l.self p ++ range_edges p l.from l.to (map byte_range (drop l.range-index l.ranges.items))
    ≡ into_at l.fn.self p ++ range_edges p l.from l.to (map byte_range l.ranges.items))
