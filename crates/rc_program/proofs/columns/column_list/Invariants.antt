use Rattle.std.proofs.Common.{◌≡◌, ◌<◌, ◌≤◌, ℕ, length, slice_index_or}
use Rattle.rc_program.specs.Columns.{column_at, matches_before}
use Rattle.rc_program.specs.Places.{places_of}
use Rattle.rc_program.proofs.columns.column_list.Given as goal

abbrev pub invariant-loop-place : goal.invariant-loop-place
invariant-loop-place l = record {
  long : length l.columns.items ≡ l.place-index;
  pattern : l.pattern ≡ matches_before (places_of l.places) l.place-index;
  few : l.pattern ≤ l.place-index;
  told : (q : ℕ) → q < l.place-index → slice_index_or l.columns.items q 0 ≡ column_at (places_of l.places) q;
}
