use Rattle.std.proofs.Common.{◌≡◌, length}
use Rattle.rc_program.specs.Places.{places_of}
use Rattle.rc_onepass.specs.Rows.{AreRows}
use Rattle.rc_onepass.proofs.EnterLemmas.{AreThere}
use Rattle.rc_onepass.proofs.onepass.OnePass.new.Given as goal

abbrev pub invariant-loop-place : goal.invariant-loop-place
invariant-loop-place l = record {
  long : length l.entered.items ≡ length l.places;
  count : length l.rows.items ≡ l.place;
  rows : AreRows (places_of l.places) l.rows.items;
  there : AreThere l.place l.entered.items l.rows.items;
}
