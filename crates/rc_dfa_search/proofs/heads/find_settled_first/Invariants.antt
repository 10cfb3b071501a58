use Rattle.std.proofs.Common.{◌≤◌, ℕ, List}
use Rattle.rc_text.specs.Text.{Keeps}
use Rattle.rc_pattern.specs.Re.{Re}
use Rattle.rc_program.specs.Program.{program}
use Rattle.rc_dfa_reach.specs.RunReach.{seen_to}
use Rattle.rc_dfa_search.specs.Aims.{AreHalvesOf, search_for}
use Rattle.rc_dfa_search.specs.Firsts.{TellsOthers}
use Rattle.rc_dfa_search.specs.Reaches.{NoneBeginBelow}
use Rattle.rc_dfa_search.proofs.heads.find_settled_first.Given as goal

-- the bytes that were read settle that no match begins before the position
abbrev pub invariant-loop-left : goal.invariant-loop-left
invariant-loop-left g l = record {
  cache : g.H.Halves.IsCache l.halves l.cache;
  keeps : Keeps l.fn.input l.input;
  low : l.fn.bounds.low ≤ l.at;
  high : l.at ≤ l.high;
  passed : (hs : List Re) (terminator : ℕ) (of : AreHalvesOf (g.H.Halves.AreOf l.halves) l.aim hs terminator)
      → TellsOthers (program hs) 0 l.tries.others.flags
      → NoneBeginBelow (search_for l.aim hs terminator l.fn.input) (seen_to of.ahead.alphabet l.reach) l.at;
}

abbrev pub decreases-loop-left : goal.decreases-loop-left
decreases-loop-left g l = l.left

abbrev pub ghost-settle_unless : goal.ghost-settle_unless
ghost-settle_unless g a = a.input.now
