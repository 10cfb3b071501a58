use Rattle.std.proofs.Common.{◌≡◌}
use Rattle.rcgrep.proofs.line_regex.LineRegexMatchFinder.find_matches.Given as goal

-- it selects as before
abbrev pub invariant-loop : goal.invariant-loop
invariant-loop l = record {
  regex : l.self.regex ≡ l.initial.self.regex;
  inverted : l.self.is_inverted ≡ l.initial.self.is_inverted;
}
