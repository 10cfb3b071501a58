-- Only proofs use this file.
-- A pass that is under way: what holds when it has come to the position `at`. Its rows have `width`
-- slots, and it began at the start `from`.
use Rattle.std.specs.Prelude.{ℕ, ◌+◌, ◌-◌, ◌*◌, ◌≤◌, [], ◌++◌, map, Option}
use Rattle.rc_text.specs.Text.{Searched}
use Rattle.rc_pikevm.specs.Moves.{seen_by}
use Rattle.rc_pikevm.specs.Near.{size}
use Rattle.rc_pikevm.specs.Passing.{GivesTrace, IsCounted, IsLined, Pending, pending}
use Rattle.rc_pikevm.specs.Races.{Races, starts_to}
use Rattle.rc_pikevm.specs.Rules.{Under}
use Rattle.rc_pikevm.specs.Trace.{Trace}
use Rattle.rc_pikevm.specs.declared.pass.Ending.{Ending}
use Rattle.rc_pikevm.specs.declared.rule.Rule.{Rule}
use Rattle.rc_pikevm.specs.declared.scratch.Scratch.{Scratch}
use Rattle.rc_pikevm.specs.declared.spot.Course.{Course}

-- The threads wait for `at` or later.
abbrev pub IsInLine : Course → Searched → ℕ → ℕ → Scratch → Type 0
IsInLine course text width at scratch = IsLined (seen_by course text) (size course) course.hi width at scratch.insertions scratch.curr

-- What is under way gives what the pass is to give.
abbrev pub Owes : Rule → Course → Searched → ℕ → ℕ → ℕ → Scratch → Option Ending → Type 0
Owes rule course text width from at scratch best =
    Under rule
    ((o : Option Trace) → Pending (seen_by course text) width course.last at scratch.curr.items best scratch.found.items o →
    GivesTrace (seen_by course text) width from course.last o)
    (Races (seen_by course text) (starts_to width from course.last) at [] [] (map pending scratch.curr.items ++ starts_to width at course.last) best
    scratch.found.items)

-- The pass by the rule has come there.
pub record HasCome (rule : Rule) (course : Course) (text : Searched) (width from at : ℕ) (scratch : Scratch) (best : Option Ending) : Type 0 where
  pub law : Owes rule course text width from at scratch best
  pub lined : IsInLine course text width at scratch
  pub ended : IsCounted scratch.insertions best
  pub few : scratch.insertions ≤ size course * (at - from)
  pub reached : from ≤ at
  pub within : at ≤ course.hi + 1
