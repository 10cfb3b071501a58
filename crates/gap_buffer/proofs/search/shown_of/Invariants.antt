use Rattle.std.proofs.Common.{◌≡◌, ◌++◌}
use Rattle.std.specs.List.{filter}
use Rattle.api_meta.specs.Left.{find_left}
use Rattle.gap_buffer.specs.Shown.{overlaps}
use Rattle.gap_buffer.proofs.search.shown_of.Given as goal

-- those in the window of the ones looked at so far
abbrev pub invariant-loop-found : goal.invariant-loop-found
invariant-loop-found l = record {
  left : find_left l.initial.found-iterator ≡ l.yielded ++ find_left l.found-iterator;
  shown : l.shown.items ≡ filter (overlaps l.window) l.yielded;
}
