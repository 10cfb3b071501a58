use Rattle.std.proofs.Common.{◌≡◌, ◌≤◌, ℕ, List, ◌-◌}
use Rattle.rc_text.specs.Text.{Keeps, high}
use Rattle.rc_text.specs.declared.types.MatchKind.TheVariants.{LeftmostFirst}
use Rattle.rc_pattern.specs.Re.{Re}
use Rattle.rc_program.specs.Program.{program}
use Rattle.rc_needles.specs.Guards.{Guards}
use Rattle.rc_needles.specs.Prefilters.{needles_of}
use Rattle.rc_dfa_reach.specs.RunReach.{seen_to}
use Rattle.rc_dfa_search.specs.declared.search.Aim.{Aim}
use Rattle.rc_dfa_search.specs.Aims.{AreHalvesOf, search_for}
use Rattle.rc_dfa_search.specs.Legs.{GoesByNeedles}
use Rattle.rc_dfa_search.specs.Reaches.{NoneBeginBelow}
use Rattle.rc_dfa_search.proofs.undecided.last_idle_by_needles.Given as goal

-- no match begins before the position, whatever follows
abbrev pub invariant-needles : goal.invariant-needles
invariant-needles g l = record {
  cache : g.H.Halves.IsCache l.halves l.cache;
  keeps : Keeps l.fn.input l.input;
  above : l.fn.at ≤ l.at;
  below : l.at ≤ l.fn.bound;
  idle : (aim : Aim) (hs : List Re) (terminator : ℕ) (of : AreHalvesOf (g.H.Halves.AreOf l.halves) aim hs terminator) → GoesByNeedles aim l.fn.input.anchored
      → aim.kind ≡ LeftmostFirst → Guards (program hs) terminator (needles_of l.needles)
      → NoneBeginBelow (search_for aim hs terminator l.fn.input) (seen_to of.ahead.alphabet (high l.fn.input)) l.fn.at
      → NoneBeginBelow (search_for aim hs terminator l.fn.input) (seen_to of.ahead.alphabet (high l.fn.input)) l.at;
}

abbrev pub decreases-needles : goal.decreases-needles
decreases-needles g l = l.fn.bound - l.at
