use Rattle.std.proofs.Common.{◌≡◌, ◌≤◌, None, length}
use Rattle.api_meta.specs.Views.{regex_kind}
use Rattle.live_matches.specs.Entries.{all_of, last_end}
use Rattle.live_matches.specs.Lists.{AreFirst, IsSearchedOn, Meets, place_of}
use Rattle.live_matches.specs.Live.{Goes, IsCacheOf, IsOver, seeks}
use Rattle.live_matches.specs.Stretches.{AreStretches, IsQuiet}
use Rattle.live_matches.proofs.Nexts.{left}
use Rattle.live_matches.proofs.quiet.search_quiet.Given as goal

-- the entries so far are the first of the content, those after the mark come next, and no match begins in the stretch behind the last entry
abbrev pub invariant-quiet : goal.invariant-quiet
invariant-quiet g l = record {
  cache : IsCacheOf l.regex l.cache;
  over : IsOver l.input;
  goes : Goes l.fn.input l.input;
  on : IsSearchedOn l.fn.entries l.entries;
  inside : place_of (last_end None l.entries.before) ≤ length l.fn.input.content;
  first : AreFirst (regex_kind l.regex) (seeks l.regex) l.fn.input.content None l.entries.before;
  rest : Meets (regex_kind l.regex) (seeks l.regex) l.fn.input.content l.mark l.entries.after;
  stretch_inside : l.stretch.end ≤ length l.fn.input.content;
  start : l.stretch.start ≡ place_of (last_end None l.entries.before);
  quiet : IsQuiet (regex_kind l.regex) (seeks l.regex) l.fn.input.content l.stretch.reach l.stretch.start l.stretch.end;
  stretches_len : l.stretches.entries.len ≡ length l.fn.input.content;
  are : AreStretches (regex_kind l.regex) (seeks l.regex) l.fn.input.content 0 (all_of l.stretches.entries);
}

abbrev pub decreases-quiet : goal.decreases-quiet
decreases-quiet g l = left (regex_kind l.regex) (seeks l.regex) (length l.fn.input.content) (last_end None l.entries.before)
