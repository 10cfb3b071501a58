use Rattle.std.proofs.Common.{◌≡◌, arith, slice_index}
use Rattle.std.proofs.lemmas.Bool.Decides.{nat_tests}
use Rattle.rc_needles.proofs.FailureLemmas.{failure_alike, failure_other}
use Rattle.rc_needles.proofs.failure.failure_at.Goals as goal

pub returns-then-needle-border : goal.returns-then-needle-border
returns-then-needle-border c =
    let needle = c.args.needle.now in
    let border = c.args.border in
    let is = c.if-needle-border.true in
    let alike : slice_index needle border ≡ slice_index needle c.args.at = grind (arith, nat_tests) in
    failure_alike needle c.args.at border (slice_index c.args.failures.now border) c.requires.longest (c.requires.are border c.requires.known) alike

pub returns : goal.returns
returns c =
    let needle = c.args.needle.now in
    let isnt = c.if-needle-border.false in
    failure_other needle c.args.at c.args.border c.requires.longest (λ (e : slice_index needle c.args.border ≡ slice_index needle c.args.at). grind (arith, nat_tests))
