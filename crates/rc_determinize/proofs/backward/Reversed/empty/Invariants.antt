use Rattle.std.proofs.Common.{◌≡◌, ℕ, [], length, map, get_or}
use Rattle.rc_determinize.proofs.backward.Reversed.empty.Given as goal

abbrev pub invariant-loop : goal.invariant-loop
invariant-loop l = (length l.into.items ≡ l.counter) × ((p : ℕ) → get_or (map (λ v. v.items) l.into.items) p [] ≡ [])
