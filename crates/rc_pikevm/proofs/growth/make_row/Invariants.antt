use Rattle.std.proofs.Common.{◌≡◌, vec_len, vec_capacity}
use Rattle.rc_pikevm.proofs.growth.make_row.Given as goal

abbrev pub invariant-loop : goal.invariant-loop
invariant-loop l = (vec_len l.row ≡ l.counter) × (vec_capacity l.row ≡ vec_capacity l.fn.row)
