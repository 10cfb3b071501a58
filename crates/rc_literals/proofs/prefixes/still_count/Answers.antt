use Rattle.std.proofs.Common.{◌∙◌, sym}
use Rattle.rc_pattern.specs.Meaning.{meaning}
use Rattle.rc_literals.proofs.ExtractionLemmas.{still_ends, still_passed}
use Rattle.rc_literals.proofs.prefixes.still_count.Goals as goal

pub returns-then-not-is_still-clause-first : goal.returns-then-not-is_still-clause-first
returns-then-not-is_still-clause-first c =
    still_ends meaning c.args.subs.now c.loop-i.i c.index-subs-i.result c.index-subs-i.result c.loop-i-test.true c.index-subs-i.is c.loop-i.invariant
    (sym c.is_still.ensures ∙ c.if-not-is_still.true)

pub loop-i-preserved : goal.loop-i-preserved
loop-i-preserved c =
    still_passed meaning c.args.subs.now c.loop-i.i c.index-subs-i.result c.index-subs-i.result c.loop-i-test.true c.index-subs-i.is c.loop-i.invariant
    (sym c.is_still.ensures ∙ c.if-not-is_still.false)
