use Rattle.std.proofs.Common.{◌≡◌, ◌≤◌, ◌++◌, length}
use Rattle.grep_lines.specs.Ahead.{contents}
use Rattle.grep_lines.specs.Lines.{lines}
use Rattle.grep_lines.specs.Pages.{IsWhole}
use Rattle.grep_lines.proofs.context.Progress.keep_each.Given as goal

-- the lines so far are kept
abbrev pub invariant-loop-end : goal.invariant-loop-end
invariant-loop-end l = record {
  kept : contents l.self.kept.items ++ lines l.fn.terminator l.left ≡ contents l.initial.self.kept.items ++ lines l.fn.terminator l.fn.text;
  whole : IsWhole l.fn.terminator l.left;
  short : length l.left ≤ length l.fn.text;
  next : l.self.next ≡ l.initial.self.next;
  place : l.self.place ≡ l.initial.self.place;
  after : l.self.left ≡ l.initial.self.left;
  behind : l.self.behind ≡ l.initial.self.behind;
}

abbrev pub decreases-loop-end : goal.decreases-loop-end
decreases-loop-end l = length l.left
