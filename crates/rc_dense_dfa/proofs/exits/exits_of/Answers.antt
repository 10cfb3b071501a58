use Rattle.std.proofs.Common.{arith}
use Rattle.std.proofs.lemmas.List.{length_push}
use Rattle.rc_dense_dfa.proofs.ExitLemmas.{exits_more}
use Rattle.rc_dense_dfa.proofs.exits.exits_of.Goals as goal

pub loop-row-preserved : goal.loop-row-preserved
loop-row-preserved c =
    let old = c.loop-row.exits.items in
    let at = c.loop-row.invariant.at in
    rw (c.in_ok-push.ensures.items, length_push) (record {
      at = omega (arith, at);
      told = exits_more c.args.classes.now c.args.cells.now c.args.width c.loop-row.row old c.exits_from.result at c.loop-row.invariant.told c.exits_from.ensures;
    })
