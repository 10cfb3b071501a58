use Rattle.std.proofs.Common.{◌∙◌, arith, false, length-set}
use Rattle.rc_literals.proofs.LeaveLemmas.{span_begun, span_done, span_more}
use Rattle.rc_literals.proofs.stops.pass_span.Goals as goal

pub loop-byte-init : goal.loop-byte-init
loop-byte-init c = record {
  long = c.told-table;
  none = λ _. omega arith;
  leaves = span_begun c.args.table.now c.args.from c.args.from (omega arith);
}

pub loop-byte-preserved : goal.loop-byte-preserved
loop-byte-preserved c = record {
  long = length-set c.loop-byte.table c.loop-byte.byte false ∙ c.loop-byte.invariant.long;
  none = λ l. absurd (omega (arith, l));
  leaves = span_more c.args.table.now c.loop-byte.table c.args.from c.loop-byte.byte (omega arith) (omega arith) c.loop-byte.invariant.leaves;
}

pub returns : goal.returns
returns c =
    span_done c.args.table.now c.loop-byte.table c.args.from c.loop-byte.byte c.args.to c.loop-byte-test.false c.loop-byte.auto.byte-end
    c.loop-byte.invariant.none c.loop-byte.invariant.leaves
