use Rattle.std.proofs.Common.{◌-◌, ◌≤◌}
use Rattle.rc_text.specs.Text.{Keeps}
use Rattle.rc_program.specs.Sought.{text_of}
use Rattle.rc_words.specs.Endings.{EndsWhere}
use Rattle.rc_words.specs.Words.{between_in}
use Rattle.rc_words.proofs.EndingLemmas.{IsNode, Told}
use Rattle.rc_words.proofs.search.ending_from.Given as goal

abbrev pub invariant-loop-place : goal.invariant-loop-place
invariant-loop-place g l = record {
  keeps : Keeps l.fn.input l.input;
  low : l.at ≤ l.place;
  node : IsNode l.trie.nodes.items l.fn.input.content l.at l.place l.node;
  told : Told (between_in l.fn.words) (text_of l.terminator l.fn.input) l.end l.at l.place l.best;
  ends : EndsWhere (between_in l.fn.words) (text_of l.terminator l.fn.input) l.end l.at l.best;
}

abbrev pub decreases-loop-place : goal.decreases-loop-place
decreases-loop-place g l = l.end - l.place
