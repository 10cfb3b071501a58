use Rattle.std.proofs.Common.{sym, ◌∙◌}
use Rattle.rc_full_tokens.proofs.FlagLemmas.{flag_goes, flag_fails}
use Rattle.rc_full_tokens.proofs.flags.flag_changes.Goals as goal

pub returns-in_default : goal.returns-in_default
returns-in_default c = sym (c.loop-i.invariant ∙ flag_fails c.args.flags.now c.loop-i.i c.loop-i.on c.loop-i.to c.index-flags-i.result c.flag.result
    c.loop-i-test.true c.index-flags-i.is c.flag.ensures c.in_default.is)

pub loop-i-preserved : goal.loop-i-preserved
loop-i-preserved c = c.loop-i.invariant ∙ flag_goes c.args.flags.now c.loop-i.i c.loop-i.on c.loop-i.to c.index-flags-i.result c.flag.result
    (c.in-Some.now_on, c.in-Some.changed) c.loop-i-test.true c.index-flags-i.is c.flag.ensures c.in-Some.is
