use Rattle.std.proofs.Common.{◌≡◌, ◌+◌, ◌<◌, ℕ, slice_index_or}
use Rattle.rc_dense_dfa.proofs.build.only_told.Given as goal

abbrev pub invariant-loop-number : goal.invariant-loop-number
invariant-loop-number l = (k code : ℕ) → k < l.number → slice_index_or l.tells k 0 ≡ code + 1 → l.greatest ≡ code + 1
