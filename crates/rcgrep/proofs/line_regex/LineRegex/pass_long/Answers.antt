use Rattle.std.proofs.Common.{ℕ, ◌≡◌, ◌<◌, ◌+◌, ◌∙◌, [], Bool, List, Some, ap, arith, length, subst}
use Rattle.api_meta.specs.declared.regex.Regex.{Regex}
use Rattle.grep_lines.proofs.PieceLemmas.{takes_told}
use Rattle.rcgrep.specs.Long.{WasTold}
use Rattle.rcgrep.specs.Picked.{has_match, is_picked}
use Rattle.rcgrep.specs.Selecting.{Selecting}
use Rattle.rcgrep.proofs.line_regex.LineRegex.pass_long.Goals as goal

-- the line was told whole
pub returns-clause-passed : goal.returns-clause-passed
returns-clause-passed g c = λ text begins some.
    let r = c.self.inside.patterns.now.regex in
    let inverted = c.self.inside.is_inverted in
    let begun = c.args.begun.now in
    let made = c.in_ok-line.line in
    let first = c.take.new.self in
    let last = c.read_pieces.new.pieces in
    let held : WasTold first begun = c.in_ok-take.ensures.told [] c.in_ok-line.ensures.told in
    let told = takes_told c.args.terminator (WasTold first) (WasTold last) (g.R.Read.remaining c.args.reader.now) (g.R.Read.remaining c.read_pieces.new.reader) begun
    c.in_ok-rest.rest (Some text) begins some held c.in_ok-rest.ensures.told in
    let line = told.0 in
    let sum : c.in-Some.len ≡ length line = omega (arith, c.in-Some.ensures, told.2) in
    let fits : length line < 18446744073709551616 = omega (arith, c.in-Some.ensures, told.2) in
    let same : has_match last.search.regex line ≡ has_match r line =
    ap (λ (f : List ℕ → Bool). f line) (c.read_pieces.ensures.same ∙ c.take.ensures.same) ∙ ap (λ (x : Regex). has_match x line) c.in_ok-line.ensures.regex in
    record {
      line = line;
      taken = told.1;
      counted = sum;
      picked =
          c.picks.ensures ∙ ap (is_picked inverted) (c.finish.ensures line told.3 fits ∙ same)
          ∙ ap (λ (s : Selecting). is_picked s.is_inverted (has_match s.regex line)) c.self.view_is;
    }
