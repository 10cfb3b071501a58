use Rattle.std.proofs.Common.{◌<◌, ◌≤◌, length, sym, subst, arith}
use Rattle.rc_table_search.specs.Walks.{left_of}
use Rattle.rc_table_search.specs.Searches.{GoesAcross}
use Rattle.rc_table_search.proofs.OverLemmas.{across_alone}
use Rattle.rc_table_search.proofs.RunLemmas.{fewer}
use Rattle.rc_table_search.proofs.over.run_plain.Goals as goal

pub loop-plain-preserved : goal.loop-plain-preserved
loop-plain-preserved g c =
    let backwards = g.W.Way.BACKWARDS in
    let v = g.T.Transitions.view c.args.table.now backwards in
    let piece = c.args.piece.now in
    let place = c.loop-plain.place in
    let at = c.loop-plain.invariant in
    let on = at.on in
    let some : 0 < left_of backwards (length piece) place = omega (arith, c.left.ensures, c.loop-plain-test.true) in
    let few = fewer backwards (length piece) place at.within some in
    let less = few.1 in
    let same = sym c.next-place.ensures in
    record {
      within = subst (λ k. k ≤ length piece) same few.0;
      on = subst (λ k. left_of backwards (length piece) k ≤ left_of backwards (length piece) c.args.from) same (omega (arith, less, on));
      row = c.in-Some.ensures.row;
      across = subst (λ k. GoesAcross v backwards c.args.cache.now piece c.args.from k c.args.begin c.in-Some.there) same
          (across_alone _ v backwards c.args.cache.now piece c.args.from place c.byte-byte.result _ c.args.begin c.loop-plain.stand c.in-Some.there at.within some
          c.byte-byte.ensures at.across c.in-Some.ensures.on (omega (arith, c.if-byte-ge128.false)));
    }
