use Rattle.std.proofs.Common.{ℕ, ◌≡◌, [], length, slice_index_or}
use Rattle.rc_program.specs.Heads.{flags_in}
use Rattle.rc_program.proofs.heads.no_sets.Given as goal

abbrev pub invariant-loop : goal.invariant-loop
invariant-loop l = record {
  count : length l.tables.items ≡ l.index;
  none : (p : ℕ) → length (slice_index_or (flags_in l.tables.items) p []) ≡ 0;
}
