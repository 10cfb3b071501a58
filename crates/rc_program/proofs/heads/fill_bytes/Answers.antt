use Rattle.rc_pattern.specs.Meaning.{byte_range}
use Rattle.rc_program.proofs.ClosingLemmas.{joined_range}
use Rattle.rc_program.proofs.heads.fill_bytes.Goals as goal

pub loop-range-preserved : goal.loop-range-preserved
loop-range-preserved c =
    joined_range 256 byte_range c.args.ranges.now c.loop-range.range-index (record { start = 0; end = 0 }) c.args.flags.now c.loop-range.flags c.fill.new.flags
    c.loop-range-test.true c.loop-range.invariant c.fill.ensures
