use Rattle.std.proofs.Common.{◌-◌, ◌≤◌, drop}
use Rattle.rc_text.specs.Text.{Keeps}
use Rattle.rc_needles.proofs.TrieLemmas.{IsWalked}
use Rattle.rc_needles.proofs.literal.least_number.Given as goal

abbrev pub invariant-loop-place : goal.invariant-loop-place
invariant-loop-place g l = record {
  keeps : Keeps l.fn.input l.input;
  low : l.at ≤ l.place;
  walked : IsWalked l.trie.nodes.items (drop l.at l.fn.input.content) (l.place - l.at) l.node l.best;
}

abbrev pub decreases-loop-place : goal.decreases-loop-place
decreases-loop-place g l = l.end - l.place
