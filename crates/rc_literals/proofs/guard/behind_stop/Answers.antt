use Rattle.std.proofs.Common.{arith, inr, rules}
use Rattle.rc_literals.proofs.GuardLemmas.{behind_here, none_back}
use Rattle.rc_literals.proofs.guard.behind_stop.Goals as goal

pub returns-then-left-gt0-clause-behind : goal.returns-then-left-gt0-clause-behind
returns-then-left-gt0-clause-behind g c = record {
  none = none_back c.args.stops.now.table c.args.input.now.content _ c.piece_before-piece.result.now c.args.at c.args.needle c.loop-from.from
      c.stopped_len-left.result c.loop-from.invariant.keeps.content c.piece_before-piece.ensures.short c.piece_before-piece.ensures.bytes
      c.stopped_len-left.ensures.within c.stopped_len-left.ensures.none c.loop-from.invariant.none;
  least = inr (behind_here c.args.stops.now.table c.args.input.now.content _ c.piece_before-piece.result.now c.args.at c.args.needle c.loop-from.from
      c.stopped_len-left.result c.loop-from.invariant.keeps.content c.piece_before-piece.ensures.short c.piece_before-piece.ensures.bytes
      c.stopped_len-left.ensures.within c.if-left-gt0.true c.stopped_len-left.ensures.last);
}

pub loop-from-preserved : goal.loop-from-preserved
loop-from-preserved g c = record {
  keeps = search rules;
  low = omega (arith, c.piece_before-piece.ensures.short, c.stopped_len-left.ensures.within);
  high = omega (arith, c.loop-from.invariant.high);
  none = none_back c.args.stops.now.table c.args.input.now.content _ c.piece_before-piece.result.now c.args.at c.args.needle c.loop-from.from
      c.stopped_len-left.result c.loop-from.invariant.keeps.content c.piece_before-piece.ensures.short c.piece_before-piece.ensures.bytes
      c.stopped_len-left.ensures.within c.stopped_len-left.ensures.none c.loop-from.invariant.none;
}
