use Rattle.std.proofs.Common.{◌≡◌, ◌+◌, ◌≤◌, false, ℕ, List, length, max}
use Rattle.stream_search.specs.Listing.{Adds}
use Rattle.stream_search.specs.Searches.{IsOver}
use Rattle.stream_search.specs.Searching.{left_after}
use Rattle.stream_search.specs.Streams.{MayBecome}
use Rattle.stream_search.proofs.list.ListStepperOf.add.Given as goal

-- the matches so far were added, and the search goes on behind the last of them
abbrev pub invariant-told : goal.invariant-told
invariant-told g l = record {
  over : IsOver l.input;
  content : l.input.content ≡ l.fn.input.content;
  start : l.input.span.start ≡ l.self.from;
  stays : l.self ≡ record l.fn.self { from = l.self.from; last = l.self.last };
  onward : l.fn.self.from ≤ l.self.from;
  within : l.self.from ≤ max l.fn.self.from (length l.fn.input.content + 1);
  adds : (content : List ℕ) → MayBecome false l.fn.input.content content →
      Adds content l.fn.self l.fn.matches.items l.self l.matches.items;
}

abbrev pub decreases-told : goal.decreases-told
decreases-told g l = left_after l.self.last (length l.fn.input.content)
