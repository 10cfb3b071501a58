use Rattle.std.proofs.Common.{length, reverse}
use Rattle.rc_text.specs.Text.{Keeps}
use Rattle.rc_program.specs.Sought.{text_of}
use Rattle.rc_program.specs.Places.{places_of}
use Rattle.oracle_walker.specs.Frames.{IsMarked}
use Rattle.oracle_walker.proofs.StepLemmas.{IsWalking, work}
use Rattle.oracle_walker.proofs.frames.first_walk.Given as goal

abbrev pub invariant-steps : goal.invariant-steps
invariant-steps g l = record {
  keeps : Keeps l.fn.input l.input;
  walking : IsWalking (places_of l.program.places.items) (text_of l.program.terminator l.fn.input) l.hi l.fn.start l.only (reverse l.stack.items);
  marked : IsMarked (length l.program.places.items) l.marks (reverse l.stack.items);
}

abbrev pub decreases-steps : goal.decreases-steps
decreases-steps g l = work (places_of l.program.places.items) (text_of l.program.terminator l.fn.input) l.hi l.fn.start l.only (reverse l.stack.items)
