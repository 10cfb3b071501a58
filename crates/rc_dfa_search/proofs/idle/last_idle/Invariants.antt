use Rattle.std.proofs.Common.{◌≤◌, ℕ, List, ◌+◌, ◌-◌}
use Rattle.rc_text.specs.Text.{Keeps, high, low}
use Rattle.rc_pattern.specs.Re.{Re}
use Rattle.rc_dfa_reach.specs.RunReach.{seen_to}
use Rattle.rc_dfa_search.specs.Aims.{AreHalvesOf, search_for}
use Rattle.rc_dfa_search.specs.Reaches.{NoneBeginBelow}
use Rattle.rc_dfa_search.proofs.idle.last_idle.Given as goal

-- no match begins before the position, whatever follows
abbrev pub invariant-runs : goal.invariant-runs
invariant-runs g l = record {
  cache : g.H.Halves.IsCache l.halves l.cache;
  keeps : Keeps l.fn.input l.input;
  above : low l.fn.input ≤ l.at;
  below : l.at ≤ l.bound;
  idle : (hs : List Re) (terminator : ℕ) (of : AreHalvesOf (g.H.Halves.AreOf l.halves) l.fn.aim hs terminator)
      → NoneBeginBelow (search_for l.fn.aim hs terminator l.fn.input) (seen_to of.ahead.alphabet (high l.fn.input)) l.at;
}

-- the position rises, or the stride falls
abbrev pub decreases-runs : goal.decreases-runs
decreases-runs g l = l.bound + 1 - l.at + l.stride
