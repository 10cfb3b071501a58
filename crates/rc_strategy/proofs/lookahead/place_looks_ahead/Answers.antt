use Rattle.std.proofs.Common.{◌≡◌, ap, arith}
use Rattle.rc_program.specs.Places.{place_of}
use Rattle.rc_strategy.proofs.lookahead.place_looks_ahead.Goals as goal

pub returns-in-Guard-clause-least : goal.returns-in-Guard-clause-least
returns-in-Guard-clause-least c =
    λ b all. let far = all c.in-Guard.look c.in-Guard.field-1 (ap place_of c.in-Guard.is) in omega (arith, far, c.looks_ahead.ensures)
