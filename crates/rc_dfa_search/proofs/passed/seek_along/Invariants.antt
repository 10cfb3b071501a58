use Rattle.std.proofs.Common.{◌≡◌, ◌≤◌, ◌-◌, ◌+◌, ◌*◌, ℕ, List, IfSome, false}
use Rattle.rc_text.specs.Text.{Keeps, low, high}
use Rattle.rc_pattern.specs.Re.{Re}
use Rattle.rc_dfa_search.specs.Aims.{AreHalvesOf, is_early, search_from}
use Rattle.rc_dfa_search.specs.Ends.{Stands, may_end}
use Rattle.rc_dfa_search.proofs.passed.seek_along.Given as goal

abbrev pub invariant-starts : goal.invariant-starts
invariant-starts g l = record {
  cache : g.H.Halves.IsCache l.halves l.cache;
  keeps : Keeps l.fn.input l.input;
  above : (low l.fn.input ≤ l.fn.bounds.low) × (l.fn.bounds.low ≤ l.fn.start) × (l.fn.start ≤ l.from);
  below : (l.high ≡ high l.fn.input) × (l.from ≤ l.high);
  stands : (hs : List Re) (terminator : ℕ) (of : AreHalvesOf (g.H.Halves.AreOf l.halves) l.aim hs terminator) →
      Stands hs l.aim.kind (is_early l.aim) of.ahead of.back l.fn.input.anchored (search_from l.aim hs terminator l.fn.input l.fn.bounds.low) l.from;
  spends : g.H.Halves.Spends l.halves l.fn.cache l.cache ((l.from - l.fn.start) * (high l.fn.input - low l.fn.input + 2));
  memo : g.H.Halves.IsMemo l.halves l.cache l.input l.high (is_early l.aim) l.memo;
  refused : IfSome l.refused (λ x. may_end l.aim.kind l.aim.passes_over l.fn.input.content x ≡ false);
}

abbrev pub decreases-starts : goal.decreases-starts
decreases-starts g l = l.high - l.from
