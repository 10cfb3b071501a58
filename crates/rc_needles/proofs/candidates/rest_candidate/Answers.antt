use Rattle.std.proofs.Common.{arith, ap, inl, inr, ◌+◌, ◌-◌, ◌≤◌, length, sym, subst, zero-le}
use Rattle.std.proofs.lemmas.Bool.{cases_lt}
use Rattle.rc_needles.specs.Tables.{Agrees}
use Rattle.rc_needles.proofs.ScanLemmas.{no_whole, agrees_behind}
use Rattle.rc_needles.proofs.candidates.rest_candidate.Goals as goal

pub returns-in-Some-clause-passed : goal.returns-in-Some-clause-passed
returns-in-Some-clause-passed c k l agrees =
    let piece = c.args.piece.now in
    let rest = c.args.finder.now in
    let found = c.in-Some.ensures in
    let fits : c.in-Some.at + length rest ≤ length piece = found.1.fits in
    no_whole piece rest k (λ o. found.0.before k zero-le l o) (omega (arith, fits, l)) agrees

pub returns-clause-passed : goal.returns-clause-passed
returns-clause-passed c k l agrees =
    let piece = c.args.piece.now in
    let rest = c.args.finder.now in
    let shown = c.needle-rest.result.now in
    let from = c.saturating_sub-from.result in
    let same = ap length c.needle-rest.ensures in
    elim (cases_lt k from) [
      | inl h ↦
          no_whole piece rest k (λ o. c.in_default.ensures k zero-le (omega (arith, h)) o) (omega (arith, h, same)) agrees
      | inr h ↦
          c.begun_in.ensures.passed (k - from) (omega (arith, h, l))
          (agrees_behind piece shown from k h (subst (λ w. Agrees piece w k) (sym c.needle-rest.ensures) agrees))
    ]
