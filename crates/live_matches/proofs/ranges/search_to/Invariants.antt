use Rattle.std.proofs.Common.{◌≡◌, ◌≤◌, length}
use Rattle.api_meta.specs.Views.{regex_kind}
use Rattle.live_matches.specs.Entries.{last_end}
use Rattle.live_matches.specs.Lists.{AreFirst, place_of}
use Rattle.live_matches.specs.Live.{Goes, IsCacheOf, IsOver, seeks}
use Rattle.live_matches.specs.Ranges.{MeetsUpTo}
use Rattle.live_matches.proofs.Nexts.{left}
use Rattle.live_matches.proofs.ranges.search_to.Given as goal

-- the entries so far are the first of the range, and those after the mark come next
abbrev pub invariant-to : goal.invariant-to
invariant-to g l = record {
  cache : IsCacheOf l.regex l.cache;
  over : IsOver l.input;
  goes : Goes l.fn.input l.input;
  len : l.entries.len ≡ length l.fn.input.content;
  last : l.last ≡ last_end l.fn.start l.entries.before;
  inside : place_of l.last ≤ length l.fn.input.content;
  first : AreFirst (regex_kind l.regex) (seeks l.regex) l.fn.input.content l.fn.start l.entries.before;
  rest : MeetsUpTo (regex_kind l.regex) (seeks l.regex) l.fn.input.content l.stop l.mark l.entries.after;
}

abbrev pub decreases-to : goal.decreases-to
decreases-to g l = left (regex_kind l.regex) (seeks l.regex) (length l.fn.input.content) l.last
