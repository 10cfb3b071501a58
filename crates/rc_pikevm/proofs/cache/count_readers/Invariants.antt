use Rattle.std.proofs.Common.{◌≡◌, ◌+◌, ◌≤◌, drop}
use Rattle.rc_program.specs.Places.{places_of}
use Rattle.rc_pikevm.specs.Readers.{reader_count}
use Rattle.rc_pikevm.proofs.cache.count_readers.Given as goal

abbrev pub invariant-loop-place : goal.invariant-loop-place
invariant-loop-place l =
    (l.count + reader_count (places_of (drop l.place-index l.places)) ≡ reader_count (places_of l.places)) × (l.count ≤ l.place-index)
