use Rattle.std.proofs.Common.{◌≡◌, ℕ, List, length}
use Rattle.rc_onepass.specs.Rows.{Names}
use Rattle.rc_onepass.proofs.LinkLemmas.{Left}
use Rattle.rc_onepass.proofs.onepass.set_slots.Given as goal

abbrev pub invariant-loop-number : goal.invariant-loop-number
invariant-loop-number l = record {
  long : length l.slots ≡ length l.initial.slots;
  left : (ks : List ℕ) → Names l.links l.from ks → Left l.links l.number l.at ks l.initial.slots l.slots;
}

abbrev pub decreases-loop-number : goal.decreases-loop-number
decreases-loop-number l = l.number
