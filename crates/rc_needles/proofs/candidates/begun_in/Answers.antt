use Rattle.std.proofs.Common.{◌<◌, arith, subst}
use Rattle.rc_needles.proofs.ScanLemmas.{agrees_first_bytes, no_first}
use Rattle.rc_needles.proofs.candidates.begun_in.Goals as goal

pub returns-then-piece-gt-LANES-clause-passed : goal.returns-then-piece-gt-LANES-clause-passed
returns-then-piece-gt-LANES-clause-passed c k l agrees =
    c.first_place.ensures.passed k l (agrees_first_bytes c.args.piece.now c.args.rest.now c.min.result k agrees)

pub returns-clause-passed : goal.returns-clause-passed
returns-clause-passed c k l agrees =
    no_first c.args.piece.now c.args.rest.now c.memchr.result k (omega (arith, c.requires)) c.memchr.ensures
    (subst (λ r. k < r) c.unwrap_or.ensures l) agrees
