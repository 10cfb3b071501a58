use Rattle.std.proofs.Common.{◌+◌, ◌&&◌, ◌||◌, refl, slice_index_or, subst}
use Rattle.std.specs.Prelude.{nat_le, nat_lt}
use Rattle.rc_pattern.specs.declared.hir.ClassUnicodeRange.{ClassUnicodeRange}
use Rattle.rc_literals.specs.Stops.{Leaves}
use Rattle.rc_literals.proofs.LeaveLemmas.{chars_far, chars_near, ends_far, far_more, near_reads, turn_done}
use Rattle.rc_literals.proofs.stops.pass_char_ranges.Goals as goal

pub loop-range-preserved : goal.loop-range-preserved
loop-range-preserved c =
    let none : ClassUnicodeRange = record { start = 0; end = 0 } in
    let ranges = c.args.ranges.now in
    let index = c.loop-range.range-index in
    let range : ClassUnicodeRange = slice_index_or ranges index none in
    let far = c.loop-range.is_far in
    record {
      left = turn_done near_reads c.args.table.now c.loop-range.table c.pass_span.new.table ranges index range none c.loop-range-test.true refl
          c.loop-range.invariant.left
          (subst (λ m. Leaves c.loop-range.table c.pass_span.new.table (λ b. nat_le range.start b && nat_lt b m)) c.min.ensures c.pass_span.ensures);
      far = far_more far (far || nat_lt 128 (range.end + 1)) ranges index range none c.loop-range-test.true refl c.loop-range.invariant.far
          (ends_far far range.end);
    }

pub returns-then-is_far : goal.returns-then-is_far
returns-then-is_far c =
    chars_far c.args.table.now c.loop-range.table c.args.ranges.now c.loop-range.range-index c.loop-range.is_far c.loop-range-test.false
    c.loop-range.invariant.far c.loop-range.invariant.left c.pass_span-then-is_far.new.table c.told-table c.if-is_far.true c.pass_span-then-is_far.ensures

pub returns-else-is_far : goal.returns-else-is_far
returns-else-is_far c =
    chars_near c.args.table.now c.loop-range.table c.args.ranges.now c.loop-range.range-index c.loop-range.is_far c.loop-range-test.false
    c.loop-range.invariant.far c.loop-range.invariant.left c.if-is_far.false
