use Rattle.std.proofs.Common.{arith, refl}
use Rattle.rc_utf8.proofs.PlaceLemmas.{tails_more}
use Rattle.rc_utf8.proofs.program.tree.add_tails.Goals as goal

pub loop-i-preserved : goal.loop-i-preserved
loop-i-preserved c = record {
  long = omega (arith, c.in_ok-append.ensures.long, c.loop-i.invariant.long);
  more = tails_more c.args.exits.count c.args.exits.tail c.args.exits.next c.loop-i.i c.rest_of-next.result c.add_way.new.ways.items
      _ _ _ c.loop-i-test.true c.rest_of-next.ensures (rw (c.in_ok-add_way.ensures, c.new-ways.ensures.items) refl) c.in_ok-append.ensures.more c.loop-i.invariant.more;
}
