use Rattle.rc_text.specs.Text.{high}
use Rattle.api_meta.proofs.NextLemmas.{Adds, left_at_most}
use Rattle.api_meta.proofs.regex.Regex.push_before.Given as goal

abbrev pub invariant-loop-found : goal.invariant-loop-found
invariant-loop-found g l =
    Adds l.self l.fn.cache l.cache l.fn.input l.input l.memo l.before l.fn.last l.last l.fn.matches.items l.matches.items l.from

abbrev pub decreases-loop-found : goal.decreases-loop-found
decreases-loop-found g l = left_at_most (high l.fn.input) l.from l.last
