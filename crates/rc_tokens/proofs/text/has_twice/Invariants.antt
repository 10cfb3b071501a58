use Rattle.std.proofs.Common.{◌≡◌, drop, ◌||◌, ◌&&◌}
use Rattle.rc_tokens.specs.Text.{has_twice, is_at}
use Rattle.rc_tokens.proofs.text.has_twice.Given as goal

abbrev pub invariant-loop-d : goal.invariant-loop-d
invariant-loop-d l = has_twice l.fn.c l.text ≡ ((l.before && is_at l.fn.c (drop l.d-index l.text)) || has_twice l.fn.c (drop l.d-index l.text))
