use Rattle.std.proofs.Common.{sym}
use Rattle.rc_pattern.specs.Meaning.{byte_range}
use Rattle.rc_utf8.proofs.PlaceLemmas.{group_more, group_ends}
use Rattle.rc_utf8.proofs.program.tree.group_len.Goals as goal

pub returns-then-not-begins_with-clause-others : goal.returns-then-not-begins_with-clause-others
returns-then-not-begins_with-clause-others c =
    group_ends (byte_range c.args.range) c.args.level c.loop-i.i c.args.sequences.now c.index-sequences-i.result c.loop-i-test.true c.index-sequences-i.is
    (sym c.if-not-begins_with.ensures)

pub loop-i-preserved : goal.loop-i-preserved
loop-i-preserved c =
    group_more (byte_range c.args.range) c.args.level c.loop-i.i c.args.sequences.now c.index-sequences-i.result c.loop-i-test.true c.index-sequences-i.is
    (sym c.if-not-begins_with.ensures) c.loop-i.invariant
