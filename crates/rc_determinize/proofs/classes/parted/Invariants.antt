use Rattle.std.proofs.Common.{◌≡◌, length, take}
use Rattle.rc_utf8.specs.Places.{places_of}
use Rattle.rc_determinize.specs.Classes.{ArePartedAt}
use Rattle.rc_determinize.proofs.classes.parted.Given as goal

abbrev pub invariant-loop-place : goal.invariant-loop-place
invariant-loop-place l = record {
  size : length l.borders.items ≡ 256;
  parted : ArePartedAt (places_of (take l.place-index l.places)) l.borders.items;
}
