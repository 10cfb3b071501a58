use Rattle.std.proofs.Common.{map}
use Rattle.rc_pattern.specs.Meaning.{byte_range}
use Rattle.rc_program.specs.Program.{in_ranges}
use Rattle.rc_literals.proofs.LeaveLemmas.{any_reads, each_range, leaves_alike, range_reads, turns_end}
use Rattle.rc_literals.proofs.stops.pass_byte_ranges.Goals as goal

pub returns : goal.returns
returns c =
    leaves_alike c.args.table.now c.loop-range.table (any_reads range_reads c.args.ranges.now) (in_ranges (map byte_range c.args.ranges.now))
    (each_range c.args.ranges.now)
    (turns_end range_reads c.args.table.now c.loop-range.table c.args.ranges.now c.loop-range.range-index c.loop-range-test.false c.loop-range.invariant)
