use Rattle.std.proofs.Common.{◌≡◌, ◌<◌, ◌^◌, drop}
use Rattle.rc_tokens.specs.Text.{number}
use Rattle.rc_tokens.proofs.TextLemmas.{read_from}
use Rattle.rc_full_tokens.proofs.text.number.Given as goal

abbrev pub invariant-loop-i : goal.invariant-loop-i
invariant-loop-i l = (l.n < 2 ^ 32) × (number l.fn.radix l.fn.limit l.digits ≡ read_from l.fn.radix l.fn.limit l.n (drop l.i l.digits))
