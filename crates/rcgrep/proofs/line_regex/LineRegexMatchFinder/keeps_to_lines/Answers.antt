use Rattle.std.proofs.Common.{List, All, ℕ, subst}
use Rattle.grep_output.specs.InLines.{LiesInLine}
use Rattle.rcgrep.specs.Picked.{text_matches}
use Rattle.rcgrep.specs.Selecting.{Selecting}
use Rattle.rcgrep.proofs.KeptLemmas.{kept_lines}
use Rattle.rcgrep.proofs.line_regex.LineRegexMatchFinder.keeps_to_lines.Goals as goal

-- the patterns were found to spell no newline
pub returns : goal.returns
returns c = λ yes.
    subst (λ (s : Selecting). (text : List ℕ) → All (LiesInLine text) (text_matches s.regex text)) c.self.view_is
    (kept_lines c.self.inside.patterns.now.regex (c.self.inside.patterns.now.kept yes))
