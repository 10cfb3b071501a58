use Rattle.std.proofs.Common.{sym}
use Rattle.grep_lines.proofs.TouchedLemmas.{first_tells}
use Rattle.grep_lines.proofs.touched.is_line_touched.Goals as goal

-- the first of the spans tells it
pub returns-in-Some : goal.returns-in-Some
returns-in-Some c =
    sym (first_tells c.args.place c.args.line.now c.in-Some.span.now c.args.spans.now (sym c.in-Some.ensures.value) c.requires.ordered c.requires.left)
