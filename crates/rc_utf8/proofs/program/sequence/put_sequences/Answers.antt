use Rattle.rc_utf8.specs.Places.{sequences_of}
use Rattle.rc_utf8.proofs.SequenceLemmas.{class_more}
use Rattle.rc_utf8.proofs.program.sequence.put_sequences.Goals as goal

pub loop-i-preserved : goal.loop-i-preserved
loop-i-preserved c =
    class_more c.args.ranges.now c.loop-i.i _ (sequences_of c.loop-i.list.items) (sequences_of c.add_scalars.new.list.items) _ c.loop-i-test.true
    c.in_ok-add_scalars.ensures c.loop-i.invariant
