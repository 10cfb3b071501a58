use Rattle.std.proofs.Common.{◌≡◌, ◌-◌, ◌≤◌, ℕ, List, Option, length, max}
use Rattle.rc_text.specs.Text.{Keeps}
use Rattle.rc_walks.specs.Walks.{Pair}
use Rattle.rc_program.specs.Answer.{Search, last_of}
use Rattle.rc_onepass.specs.Rows.{IsOnePassOf}
use Rattle.rc_onepass.specs.Walked.{Stands}
use Rattle.rc_onepass.proofs.onepass.OnePass.cross.Given as goal

abbrev pub invariant-loop-at : goal.invariant-loop-at
invariant-loop-at g l = record {
  keeps : Keeps l.initial.input l.input;
  long : length l.slots ≡ length l.initial.slots;
  low : l.span.start ≤ l.at;
  within : l.at ≤ max l.span.start l.span.end;
  stands : (s : Search) (w : List Pair) (before : List (Option ℕ)) → IsOnePassOf s.places l.self → s.text.content ≡ l.initial.input.content →
      l.span.end ≡ (last_of w).1 → Stands s w before l.span.start 0 l.initial.slots → Stands s w before l.at l.place l.slots;
}

abbrev pub decreases-loop-at : goal.decreases-loop-at
decreases-loop-at g l = l.span.end - l.at
