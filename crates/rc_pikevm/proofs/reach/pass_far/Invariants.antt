use Rattle.std.proofs.Common.{◌≡◌, ℕ, ◌+◌, ◌-◌, ◌<◌, ◌≤◌, ◌⊎◌, length, Option, MatchOption, is_none, true}
use Rattle.std.specs.Bool.{⊤}
use Rattle.rc_text.specs.Text.{Keeps}
use Rattle.rc_pikevm.specs.Moves.{seen_by}
use Rattle.rc_pikevm.specs.Passing.{GivesTraceTo, PendingTo}
use Rattle.rc_pikevm.specs.Scratches.{IsSame}
use Rattle.rc_pikevm.specs.Sights.{IsUpTo}
use Rattle.rc_pikevm.specs.Trace.{Trace}
use Rattle.rc_pikevm.specs.Underway.{HasCome}
use Rattle.rc_pikevm.specs.declared.rule.Rule.TheVariants.{First}
use Rattle.rc_pikevm.specs.Windows.{IsWindow, IsBegun}
use Rattle.rc_pikevm.proofs.reach.pass_far.Given as goal

abbrev pub invariant-positions : goal.invariant-positions
invariant-positions g l = record {
  keeps : Keeps g.text l.input;
  window : IsWindow g.text l.window;
  begun : IsBegun g.text l.at l.window;
  come : HasCome (First 0) l.course g.text l.fn.scratch.next.threads.width l.from l.at l.scratch l.best;
  carries : (limit : Option ℕ) → IsUpTo (l.at - 1) limit → (o : Option Trace)
      → PendingTo limit (seen_by l.course g.text) l.fn.scratch.next.threads.width l.course.last l.at l.scratch.curr.items l.best
      l.scratch.found.items o
      → GivesTraceTo limit (seen_by l.course g.text) l.fn.scratch.next.threads.width l.from l.course.last o;
  ended : (x : ℕ) → l.at ≤ x + 1 → MatchOption l.best ⊤ (λ r. r.end ≤ x);
  live : (0 < length l.scratch.curr.items) ⊎ ((is_none l.best ≡ true) × (l.at ≤ l.course.last));
  same : IsSame l.fn.scratch l.scratch;
}

abbrev pub decreases-positions : goal.decreases-positions
decreases-positions g l = l.course.hi + 1 - l.at

abbrev pub ghost-spot_at : goal.ghost-spot_at
ghost-spot_at g a = g.text

abbrev pub ghost-turn : goal.ghost-turn
ghost-turn g a = g.text
