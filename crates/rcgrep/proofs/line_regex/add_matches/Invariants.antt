use Rattle.std.proofs.Common.{◌≡◌, ◌++◌, [], map, true}
use Rattle.rcgrep.specs.Picked.{span_of}
use Rattle.rcgrep.proofs.line_regex.add_matches.Given as goal

-- the spans of the matches so far: if the first one is asked for alone, there is none
abbrev pub invariant-loop-found : goal.invariant-loop-found
invariant-loop-found g l = record {
  spans : l.spans.items ≡ l.initial.spans.items ++ map span_of l.yielded;
  none : l.only_first ≡ true → l.yielded ≡ [];
}
