use Rattle.std.proofs.Common.{◌≡◌, ◌≤◌, ◌+◌, length}
use Rattle.std.specs.List.{filter}
use Rattle.grep_lines.specs.Pages.{ends_line}
use Rattle.grep_lines.proofs.pages.count_terminators.Given as goal

-- the terminators so far, and those that are left
abbrev pub invariant-loop-left : goal.invariant-loop-left
invariant-loop-left l = record {
  counted : l.count + length (filter (ends_line l.terminator) l.left) ≡ length (filter (ends_line l.terminator) l.bytes);
  few : l.count + length l.left ≤ length l.bytes;
}

abbrev pub decreases-loop-left : goal.decreases-loop-left
decreases-loop-left l = length l.left
