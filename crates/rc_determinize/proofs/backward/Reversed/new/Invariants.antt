use Rattle.std.proofs.Common.{◌≡◌, ℕ, ◌++◌, length, drop}
use Rattle.rc_utf8.specs.Places.{places_of}
use Rattle.rc_determinize.specs.Reversed.{into_at, all_edges}
use Rattle.rc_determinize.proofs.backward.Reversed.new.Given as goal

abbrev pub invariant-loop-i : goal.invariant-loop-i
invariant-loop-i l =
    (length l.reversed.into.items ≡ length l.places) × ((p : ℕ) →
    into_at l.reversed p ++ all_edges p l.i (drop l.i (places_of l.places)) ≡ all_edges p 0 (places_of l.places))
