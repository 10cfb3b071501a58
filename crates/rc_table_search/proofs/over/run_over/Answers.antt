use Rattle.std.proofs.Common.{◌<◌, length, sym, subst, ap, arith}
use Rattle.rc_table_search.specs.Walks.{left_of}
use Rattle.rc_table_search.specs.Searches.{GoesAcross}
use Rattle.rc_table_search.proofs.OverLemmas.{across_alone}
use Rattle.rc_table_search.proofs.RunLemmas.{fewer}
use Rattle.rc_table_search.proofs.over.run_over.Goals as goal
use Rattle.rc_table_search.proofs.over.run_over.Goals.{After-run_plain-on}

some : (g : _) (c : After-run_plain-on g) → 0 < left_of g.W.Way.BACKWARDS (length c.args.piece.now) c.loop-front.place
some g c = omega (arith, c.left.ensures, c.loop-front-test.true)

-- the run came over the ASCII bytes
across : (g : _) (c : After-run_plain-on g) → GoesAcross (g.T.Transitions.view c.args.table.now g.W.Way.BACKWARDS) g.W.Way.BACKWARDS c.args.cache.now c.args.piece.now
    c.args.from c.run_plain-on.result.0 c.args.begin c.run_plain-on.result.1
across g c = λ o q start lies here.
    let backwards = g.W.Way.BACKWARDS in
    let v = g.T.Transitions.view c.args.table.now backwards in
    let piece = c.args.piece.now in
    let at = c.loop-front.invariant in
    let first = subst (λ k. GoesAcross v backwards c.args.cache.now piece c.args.from k c.args.begin c.in-Some-over_byte.there) (sym c.next-at.ensures)
    (across_alone _ v backwards c.args.cache.now piece c.args.from c.loop-front.place c.byte-front.result _ c.args.begin c.loop-front.stand c.in-Some-over_byte.there
    at.within (some g c) c.byte-front.ensures at.across c.in-Some-over_byte.ensures.on (omega (arith, c.if-front-ge128.false))) in
    c.run_plain-on.ensures.across o q start lies (first o q start lies here)

-- so fewer are left
less : (g : _) (c : After-run_plain-on g) → left_of g.W.Way.BACKWARDS (length c.args.piece.now) c.run_plain-on.result.0
    < left_of g.W.Way.BACKWARDS (length c.args.piece.now) c.loop-front.place
less g c =
    let few = fewer g.W.Way.BACKWARDS (length c.args.piece.now) c.loop-front.place c.loop-front.invariant.within (some g c) in
    let at = ap (left_of g.W.Way.BACKWARDS (length c.args.piece.now)) c.next-at.ensures in
    omega (arith, few.1, at, c.run_plain-on.ensures.on)

pub returns-then-byte-lt128-clause-on : goal.returns-then-byte-lt128-clause-on
returns-then-byte-lt128-clause-on g c =
    let fall = less g (goal.at.returns-then-byte-lt128-clause-on g c).After-run_plain-on in
    let on = c.loop-front.invariant.on in
    omega (arith, fall, on)

pub returns-then-byte-lt128-clause-across : goal.returns-then-byte-lt128-clause-across
returns-then-byte-lt128-clause-across g c = across g (goal.at.returns-then-byte-lt128-clause-across g c).After-run_plain-on

pub loop-front-preserved : goal.loop-front-preserved
loop-front-preserved g c =
    let d = (goal.at.loop-front-preserved g c).After-run_plain-on in
    let fall = less g d in
    let on = c.loop-front.invariant.on in
    record {
      within = c.run_plain-on.ensures.within;
      on = omega (arith, fall, on);
      row = c.run_plain-on.ensures.row;
      across = across g d;
    }
