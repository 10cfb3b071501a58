use Rattle.std.proofs.Common.{◌≡◌, ◌+◌, ◌≤◌, ℕ, List, Option, length, slice_range}
use Rattle.rc_walks.specs.Walks.{Pair}
use Rattle.rc_program.specs.Answer.{Search, last_of}
use Rattle.rc_onepass.specs.Rows.{IsOnePassOf}
use Rattle.rc_onepass.specs.Walked.{Stands}
use Rattle.rc_onepass.proofs.onepass.OnePass.run.Given as goal

abbrev pub invariant-loop-i : goal.invariant-loop-i
invariant-loop-i l = record {
  long : length l.slots ≡ length l.initial.slots;
  stands : (s : Search) (w : List Pair) (before : List (Option ℕ)) → IsOnePassOf s.places l.self →
      l.piece ≡ slice_range s.text.content l.start (l.start + length l.piece) → l.start + length l.piece ≤ (last_of w).1 →
      Stands s w before l.start l.from l.initial.slots → Stands s w before (l.start + l.i) l.place l.slots;
}
