use Rattle.std.proofs.Common.{◌≡◌, ◌<◌, false, length, slice_index_or, true}
use Rattle.rc_program.specs.Places.{places_of}
use Rattle.rc_onepass.proofs.EnterLemmas.{AreMarked}
use Rattle.rc_onepass.proofs.onepass.entered.Given as goal

abbrev pub invariant-loop-place : goal.invariant-loop-place
invariant-loop-place l = record {
  long : length l.flags.items ≡ length l.places;
  first : 0 < length l.places → slice_index_or l.flags.items 0 false ≡ true;
  marked : AreMarked (places_of l.places) (length l.places) l.place-index l.flags.items;
}
