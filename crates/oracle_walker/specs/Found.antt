-- Only proofs use this file.
-- The walk that a search chose, as the answer names it.
use Rattle.rc_program.specs.Answer.{Chosen}
use Rattle.oracle_walker.specs.declared.walker.Walk.{Walk}
use Rattle.oracle_walker.specs.Frames.{walk_of}

abbrev pub chosen_of : Walk → Chosen
chosen_of w = record { start = w.start; walk = walk_of w.frames }
