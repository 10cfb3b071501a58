use Rattle.std.proofs.Common.{ℕ, ◌<◌, ◌≤◌, length, reverse}
use Rattle.rc_text.specs.Text.{Keeps, low}
use Rattle.rc_program.specs.Answer.{IsPassed}
use Rattle.rc_program.specs.Programs.{search_of}
use Rattle.oracle_walker.specs.Frames.{IsMarked}
use Rattle.oracle_walker.proofs.walker.find_walk.Given as goal

abbrev pub invariant-loop-start : goal.invariant-loop-start
invariant-loop-start g l = record {
  keeps : Keeps l.fn.input l.input;
  passed : (y : ℕ) → low l.fn.input ≤ y → y < l.start → IsPassed (search_of l.program l.fn.input) y;
  marked : IsMarked (length l.program.places.items) l.marks.items (reverse l.frames.items);
}
