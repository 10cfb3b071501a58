use Rattle.std.proofs.Common.{◌≡◌, ◌≤◌, ◌-◌, ◌+◌, ◌*◌, ℕ, List}
use Rattle.rc_text.specs.Text.{Keeps, low, high}
use Rattle.rc_pattern.specs.Re.{Re}
use Rattle.rc_dfa_search.specs.Aims.{AreHalvesOf, is_early, search_from}
use Rattle.rc_dfa_search.specs.Ends.{Asks, Stands}
use Rattle.rc_dfa_search.proofs.search.seek_end.Given as goal

abbrev pub invariant-starts : goal.invariant-starts
invariant-starts g l = record {
  cache : g.H.Halves.IsCache l.halves l.cache;
  keeps : Keeps l.fn.input l.input;
  above : (low l.fn.input ≤ l.fn.bounds.low) × (l.fn.bounds.low ≤ l.from);
  below : (l.high ≡ high l.fn.input) × (l.from ≤ l.high);
  asks : Asks l.aim.patterns l.fn.input.anchored;
  stands : (hs : List Re) (terminator : ℕ) (of : AreHalvesOf (g.H.Halves.AreOf l.halves) l.aim hs terminator) →
      Stands hs l.aim.kind (is_early l.aim) of.ahead of.back l.fn.input.anchored (search_from l.aim hs terminator l.fn.input l.fn.bounds.low) l.from;
  spends : g.H.Halves.Spends l.halves l.fn.cache l.cache ((l.from - low l.fn.input) * (high l.fn.input - low l.fn.input + 2));
}

abbrev pub decreases-starts : goal.decreases-starts
decreases-starts g l = l.high - l.from
