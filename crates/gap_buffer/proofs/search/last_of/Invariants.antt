use Rattle.std.proofs.Common.{◌≡◌, ◌++◌, None}
use Rattle.std.specs.List.{filter, last_or}
use Rattle.api_meta.specs.Left.{find_left}
use Rattle.gap_buffer.specs.Shown.{begins_before}
use Rattle.gap_buffer.proofs.search.last_of.Given as goal

-- the last of those looked at so far, which all begin before the place
abbrev pub invariant-loop-found : goal.invariant-loop-found
invariant-loop-found l = record {
  left : find_left l.initial.found-iterator ≡ l.yielded ++ find_left l.found-iterator;
  last : l.last ≡ last_or None (filter (begins_before l.at) l.yielded);
}
