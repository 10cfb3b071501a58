use Rattle.std.proofs.Common.{◌≤◌, None, length}
use Rattle.api_meta.specs.Views.{regex_kind}
use Rattle.live_matches.specs.Entries.{last_end}
use Rattle.live_matches.specs.Lists.{AreFirst, IsSearchedOn, Meets, place_of}
use Rattle.live_matches.specs.Live.{Goes, IsCacheOf, IsOver, seeks}
use Rattle.live_matches.specs.Quiet.{IsFrom}
use Rattle.live_matches.proofs.Nexts.{left}
use Rattle.live_matches.proofs.quiet.search_near.Given as goal

-- the entries so far are the first of the content, and those after the mark come next
abbrev pub invariant-near : goal.invariant-near
invariant-near g l = record {
  cache : IsCacheOf l.regex l.cache;
  over : IsOver l.input;
  goes : Goes l.fn.input l.input;
  on : IsSearchedOn l.fn.entries l.entries;
  inside : place_of (last_end None l.entries.before) ≤ length l.fn.input.content;
  first : AreFirst (regex_kind l.regex) (seeks l.regex) l.fn.input.content None l.entries.before;
  from : IsFrom (regex_kind l.regex) (seeks l.regex) l.fn.input.content (last_end None l.entries.before) l.longest l.from;
  rest : Meets (regex_kind l.regex) (seeks l.regex) l.fn.input.content l.mark l.entries.after;
}

abbrev pub decreases-near : goal.decreases-near
decreases-near g l = left (regex_kind l.regex) (seeks l.regex) (length l.fn.input.content) (last_end None l.entries.before)
