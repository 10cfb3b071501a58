use Rattle.std.proofs.Common.{IfOk, subst}
use Rattle.rc_text.specs.Text.{high}
use Rattle.rc_program.specs.Sought.{text_of}
use Rattle.rc_dfa_search.specs.Reaches.{HasRunBelow}
use Rattle.rc_dfa_search.proofs.SettledLemmas.{leg_below}
use Rattle.rc_dfa_search.proofs.needles.read_leg.Goals as goal

pub returns-clause-leg : goal.returns-clause-leg
returns-clause-leg g c aim hs terminator of =
    let s = c.args.input.now in
    let read = c.run_forwards-reading.result.read in
    subst (λ o. IfOk o (HasRunBelow of.ahead (text_of terminator s) (high s) c.args.bounds.low c.args.earliest read)) c.in_ok-leg.was
    (leg_below (g.H.Halves.AreOf c.args.halves.now) aim hs terminator of s c.run_forwards-reading.result.ended read c.args.bounds.low c.args.bounds.high c.args.earliest c.leg_of.result c.leg_of.ensures
    c.requires.high c.run_forwards-reading.ensures.ended)
