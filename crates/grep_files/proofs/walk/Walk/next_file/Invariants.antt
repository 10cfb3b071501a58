use Rattle.std.proofs.Common.{◌≡◌}
use Rattle.grep_files.specs.Walks.{GoesOn, ahead, choice_of}
use Rattle.grep_files.proofs.walk.Walk.next_file.Given as goal

-- the walk went on to what is left
abbrev pub invariant-loop : goal.invariant-loop
invariant-loop l = record {
  choice : choice_of l.self ≡ choice_of l.fn.self;
  went : GoesOn (choice_of l.fn.self) (ahead l.fn.self) (ahead l.self);
}
