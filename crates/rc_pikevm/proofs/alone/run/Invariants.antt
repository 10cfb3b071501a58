use Rattle.std.proofs.Common.{◌≡◌, ℕ, false, ◌-◌, ◌<◌, ◌≤◌, List, [], ◌∷◌, Option}
use Rattle.rc_pikevm.specs.Moves.{seen_by}
use Rattle.rc_pikevm.specs.Near.{size}
use Rattle.rc_pikevm.specs.Trace.{Trace, trace}
use Rattle.rc_pikevm.specs.Passing.{Carries, waiting_starts}
use Rattle.rc_walks.specs.Walks.{Pair}
use Rattle.rc_pikevm.specs.Races.{Races, IsCutOff, IsSought, starts_to}
use Rattle.rc_pikevm.specs.declared.pass.Ending.{Ending}
use Rattle.rc_pikevm.specs.Windows.{IsAround}
use Rattle.rc_pikevm.proofs.alone.run.Given as goal

abbrev pub invariant-positions : goal.invariant-positions
invariant-positions g l = record {
  place_in : l.place < size l.course;
  later : l.head.at ≤ l.at;
  within : l.at ≤ l.course.hi;
  around : IsAround g.text l.head.at l.window → IsAround g.text l.at l.window;
  carries : (slots : List (Option ℕ)) (width : ℕ) (best o : Option Trace)
      → Carries (seen_by l.course g.text) l.at [] [] ((trace l.head.start slots, (l.place, l.at)) ∷ waiting_starts l.is_open width l.at l.course.last) best o
      → Carries (seen_by l.course g.text) l.head.at [] []
      ((trace l.head.start slots, (l.head.place, l.head.at)) ∷ waiting_starts l.is_open width l.head.at l.course.last) best o;
  races : (all : List (Trace × Pair)) (slots : List (Option ℕ)) (width : ℕ) (best : Option Ending) (found : List (Option ℕ))
      → IsSought best l.head.start → (l.is_open ≡ false → IsCutOff best l.head.at)
      → Races (seen_by l.course g.text) all l.head.at [] [] ((trace l.head.start slots, (l.head.place, l.head.at)) ∷ starts_to width l.head.at l.course.last)
      best found
      → Races (seen_by l.course g.text) all l.at [] [] ((trace l.head.start slots, (l.place, l.at)) ∷ starts_to width l.at l.course.last) best found;
}

abbrev pub decreases-positions : goal.decreases-positions
decreases-positions g l = l.end - l.at

abbrev pub ghost-limit : goal.ghost-limit
ghost-limit g a = g.text

abbrev pub ghost-spot_at : goal.ghost-spot_at
ghost-spot_at g a = g.text

abbrev pub ghost-onward : goal.ghost-onward
ghost-onward g a = g.text

abbrev pub ghost-may_set_out : goal.ghost-may_set_out
ghost-may_set_out g a = g.text
