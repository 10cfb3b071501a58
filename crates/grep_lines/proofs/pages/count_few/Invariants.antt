use Rattle.std.proofs.Common.{◌≡◌, ◌≤◌, length, take}
use Rattle.std.specs.List.{filter}
use Rattle.grep_lines.specs.Pages.{ends_line}
use Rattle.grep_lines.proofs.pages.count_few.Given as goal

-- the terminators so far
abbrev pub invariant-loop-byte : goal.invariant-loop-byte
invariant-loop-byte l = (l.count ≡ length (filter (ends_line l.fn.terminator) (take l.byte-index l.bytes))) × (l.count ≤ l.byte-index)
