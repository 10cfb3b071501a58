use Rattle.std.proofs.Common.{◌≡◌, ◌≤◌, ◌-◌}
use Rattle.rc_text.specs.Text.{Keeps, high, low}
use Rattle.rc_program.specs.Sought.{text_of}
use Rattle.rc_words.specs.Words.{between_in}
use Rattle.rc_words.proofs.EndingLemmas.{NoneTo}
use Rattle.rc_words.proofs.search.find_word.Given as goal

abbrev pub invariant-loop-hit : goal.invariant-loop-hit
invariant-loop-hit g l = record {
  keeps : Keeps l.fn.input l.input;
  end : l.end ≡ high l.fn.input;
  above : low l.fn.input ≤ l.at;
  none : NoneTo (between_in l.fn.words) (text_of l.terminator l.fn.input) l.end (low l.fn.input) l.at;
}

abbrev pub decreases-loop-hit : goal.decreases-loop-hit
decreases-loop-hit g l = l.end - l.at
