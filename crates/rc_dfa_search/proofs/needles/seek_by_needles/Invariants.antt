use Rattle.std.proofs.Common.{◌+◌, ◌-◌, ◌≤◌, ℕ, List}
use Rattle.rc_text.specs.Text.{Keeps, low}
use Rattle.rc_pattern.specs.Re.{Re}
use Rattle.rc_program.specs.Program.{program}
use Rattle.rc_literals.specs.Guard.{IsGuard}
use Rattle.rc_dfa_reach.specs.RunReach.{seen_to}
use Rattle.rc_dfa_search.specs.declared.search.Aim.{Aim}
use Rattle.rc_dfa_search.specs.Aims.{AreHalvesOf, search_for}
use Rattle.rc_dfa_search.specs.Reaches.{GivesBelow, NoneBeginBelow}
use Rattle.rc_dfa_search.specs.Legs.{GoesByNeedles}
use Rattle.rc_dfa_search.proofs.needles.seek_by_needles.Given as goal

-- what the starts from here on give, all give, as what was read tells
abbrev pub invariant-runs : goal.invariant-runs
invariant-runs g l = record {
  cache : g.H.Halves.IsCache l.halves l.cache;
  keeps : Keeps l.fn.input l.input;
  low : low l.fn.input ≤ l.at;
  high : l.at ≤ l.fn.left.bounds.high;
  carried : (aim : Aim) (hs : List Re) (terminator : ℕ) (of : AreHalvesOf (g.H.Halves.AreOf l.halves) aim hs terminator) → IsGuard (program hs) terminator l.guard
      → GoesByNeedles aim l.fn.input.anchored → NoneBeginBelow (search_for aim hs terminator l.fn.input) l.fn.left.reach l.fn.left.at
      → GivesBelow aim.kind of.ahead (search_for aim hs terminator l.fn.input) (seen_to of.ahead.alphabet l.reach) l.at;
}

abbrev pub decreases-runs : goal.decreases-runs
decreases-runs g l = l.fn.left.bounds.high + 1 - l.at
