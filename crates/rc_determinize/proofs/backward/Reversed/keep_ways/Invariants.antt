use Rattle.std.proofs.Common.{◌≡◌, ℕ, ◌++◌, length, drop, map}
use Rattle.rc_utf8.specs.Places.{way_of}
use Rattle.rc_determinize.specs.Reversed.{into_at, branch_edges}
use Rattle.rc_determinize.proofs.backward.Reversed.keep_ways.Given as goal

abbrev pub invariant-loop-way : goal.invariant-loop-way
invariant-loop-way l =
    (length l.self.into.items ≡ length l.fn.self.into.items) × ((p : ℕ) →
    into_at l.self p ++ branch_edges p l.from (map way_of (drop l.way-index l.ways.items))
    ≡ into_at l.fn.self p ++ branch_edges p l.from (map way_of l.ways.items))
