use Rattle.std.proofs.Common.{below_more, length, ap, arith}
use Rattle.rc_captures.proofs.Slots.{explicit_len-more, slice_get-pushed, slice_get-kept}
use Rattle.rc_captures.proofs.groups.table.table_of.Goals as goal

pub loop-explicit-preserved : goal.loop-explicit-preserved
loop-explicit-preserved c = record {
  small = omega (arith, c.in_ok-groups-2.ensures);
  counted =
      let same = c.deref-explicit-items.ensures.value in
      let more = explicit_len-more c.args.names.items c.loop-explicit.explicit-index c.explicit-item.result (omega (arith, ap length same)) (rw same at c.explicit-item.is) in
      omega (arith, c.in_ok-groups-2.ensures, more);
  filled = omega (arith, c.in_ok-push.ensures.len);
  started =
      below_more _ _
      (λ p below. rw c.in_ok-push.ensures.items (slice_get-kept c.loop-explicit.starts.items p _ _ (c.loop-explicit.invariant.started p below)))
      (rw c.in_ok-push.ensures.items (slice_get-pushed c.loop-explicit.starts.items _ _ _ c.loop-explicit.invariant.filled (omega (arith, c.loop-explicit.invariant.counted))));
}
