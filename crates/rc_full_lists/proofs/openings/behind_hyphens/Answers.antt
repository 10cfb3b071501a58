use Rattle.rc_full_lists.specs.Openings.{none}
use Rattle.rc_full_lists.proofs.OpeningLemmas.{hyphen_shorter, hyphen_more}
use Rattle.rc_full_lists.proofs.openings.behind_hyphens.Goals as goal

pub loop-behind-smaller : goal.loop-behind-smaller
loop-behind-smaller c = hyphen_shorter c.args.verbose c.loop-behind.rest.now c.in-Some.behind.now c.passed-rest.result.now
    c.in-Some.ensures.0 c.in-Some.ensures.1 c.passed-rest.ensures

pub loop-behind-preserved : goal.loop-behind-preserved
loop-behind-preserved c v h = c.loop-behind.invariant v (hyphen_more c.args.verbose c.loop-behind.rest.now c.in-Some.behind.now c.passed-rest.result.now v
    c.in-Some.ensures.0 c.in-Some.ensures.1 c.passed-rest.ensures h)

pub returns : goal.returns
returns c = c.loop-behind.invariant c.loop-behind.rest.now (none c.loop-behind.rest.now c.in_default.ensures)
