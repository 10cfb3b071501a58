use Rattle.std.proofs.Common.{◌≡◌, ℕ, ◌++◌, length, List}
use Rattle.live_matches.specs.declared.sides.Kept.{Kept}
use Rattle.live_matches.specs.Entries.{Rise}
use Rattle.live_matches.proofs.entries.drop_back.Given as goal

-- the last ones went
abbrev pub invariant-back : goal.invariant-back
invariant-back l = record {
  rise : (len : ℕ) → Rise len 0 l.fn.sides.before → Rise len 0 l.sides.before;
  dropped : (dropped : List Kept) × (l.fn.sides.before ≡ l.sides.before ++ dropped);
  after : l.sides.after ≡ l.fn.sides.after;
}

abbrev pub decreases-back : goal.decreases-back
decreases-back l = length l.sides.before
