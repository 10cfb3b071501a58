use Rattle.std.proofs.Common.{◌≡◌, ◌-◌, ◌≤◌, length}
use Rattle.rc_text.specs.Text.{Keeps}
use Rattle.api_meta.specs.Views.{regex_kind}
use Rattle.live_matches.specs.Entries.{all_of}
use Rattle.live_matches.specs.Live.{IsCacheOf, seeks}
use Rattle.live_matches.specs.Stretches.{AreStretches, IsQuiet}
use Rattle.live_matches.proofs.stretches.Stretches.go_on.Given as goal

-- no match begins in the stretch so far
abbrev pub invariant-steps : goal.invariant-steps
invariant-steps g l = record {
  cache : IsCacheOf l.regex l.cache;
  keeps : Keeps l.fn.input l.input;
  len : l.self.entries.len ≡ length l.fn.input.content;
  are : AreStretches (regex_kind l.regex) (seeks l.regex) l.fn.input.content 0 (all_of l.self.entries);
  start : l.stretch.start ≡ l.fn.stretch.start;
  order : l.fn.stretch.end ≤ l.stretch.end;
  inside : l.stretch.end ≤ length l.fn.input.content;
  quiet : IsQuiet (regex_kind l.regex) (seeks l.regex) l.fn.input.content l.stretch.reach l.stretch.start l.stretch.end;
}

abbrev pub decreases-steps : goal.decreases-steps
decreases-steps g l = l.limit - l.stretch.end
