use Rattle.std.proofs.Common.{◌≡◌, ◌⊎◌, ◌-◌, ◌<◌, ◌≤◌, ℕ, None, length, slice_index_or}
use Rattle.rc_pikevm.proofs.search.put_groups.Given as goal

abbrev pub invariant-loop-slot : goal.invariant-loop-slot
invariant-loop-slot l = record {
  long : length l.slots ≡ length l.fn.slots;
  from : l.range.first ≤ l.slot;
  to : (l.slot ≤ l.end) ⊎ (l.slot ≡ l.range.first);
  own : (k : ℕ) → l.range.first ≤ k → k < l.slot → slice_index_or l.slots k None ≡ slice_index_or l.row (k - l.range.first) None;
  before : (k : ℕ) → k < l.range.first → slice_index_or l.slots k None ≡ None;
  behind : (k : ℕ) → l.slot ≤ k → slice_index_or l.slots k None ≡ None;
}
