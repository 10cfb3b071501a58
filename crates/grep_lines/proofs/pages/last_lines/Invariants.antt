use Rattle.std.proofs.Common.{◌≡◌, ◌≤◌, drop, length, take}
use Rattle.grep_lines.specs.Lines.{lines}
use Rattle.grep_lines.specs.Pages.{IsWhole}
use Rattle.grep_lines.proofs.pages.last_lines.Given as goal

-- so many lines begin there
abbrev pub invariant-loop : goal.invariant-loop
invariant-loop l = record {
  within : l.end ≤ length l.fn.text;
  whole : IsWhole l.fn.terminator (take l.end l.fn.text);
  counted : length (lines l.fn.terminator (drop l.end l.fn.text)) ≡ l.counter;
}
