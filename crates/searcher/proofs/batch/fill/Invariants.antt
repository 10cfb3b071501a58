use Rattle.std.proofs.Common.{◌≡◌, ◌++◌, length, map, take}
use Rattle.rc_pikevm_search.specs.Moved.{IsMoved}
use Rattle.api_meta.specs.Caches.{IsCacheFor}
use Rattle.api_meta.specs.Views.{regex_kind, regex_patterns, regex_settings, sought}
use Rattle.rc_program.specs.Kinds.{matches_by_kind}
use Rattle.rc_program.specs.Sought.{search_for}
use Rattle.searcher.specs.Places.{GoesOn, found_at}
use Rattle.searcher.proofs.batch.fill.Given as goal

-- the first matches were written, and the others are left from where the span starts
abbrev pub invariant-loop-count : goal.invariant-loop-count
invariant-loop-count g l = record {
  made : IsCacheFor (regex_patterns l.regex) (regex_settings l.regex) l.cache;
  moved : IsMoved l.initial.input l.input;
  sized : length l.batch ≡ length l.initial.batch;
  listed : matches_by_kind (regex_kind l.regex) (search_for (sought l.regex) l.initial.input) l.initial.input.span.start l.fn.before
      ≡ map found_at (take l.count l.batch) ++ matches_by_kind (regex_kind l.regex) (search_for (sought l.regex) l.initial.input) l.input.span.start l.last;
  goes : GoesOn l.batch l.count l.initial.input.span.start l.fn.before l.input.span.start l.last;
}
