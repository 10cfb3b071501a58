use Rattle.std.proofs.Common.{◌+◌, ◌<◌, ◌≤◌, ◌∙◌, length, sym, subst, arith}
use Rattle.std.proofs.lemmas.Option.{IfSome_then}
use Rattle.rc_table_search.specs.Decodes.{entry_of, rest_of}
use Rattle.rc_table_search.specs.Searches.{GoesAcross, GoesOver, IsAt}
use Rattle.rc_table_search.proofs.ScalarLemmas.{entry_at, entry_next, exit_next, far_tag, inner_next, mid_tag, near_tag, past_here, rest_inside, rest_some}
use Rattle.rc_table_search.proofs.OverLemmas.{across_one}
use Rattle.rc_table_search.proofs.over.over_scalar.Goals as goal

pub over_symbol-requires-clause-past : goal.over_symbol-requires-clause-past
over_symbol-requires-clause-past g c =
    let backwards = g.W.Way.BACKWARDS in
    let s = c.args.scalar in
    let piece = c.args.piece.now in
    let entry = c.entry-entry.result in
    let two = c.requires.several in
    let at = entry_at backwards s entry two c.entry-entry.ensures in
    let rest = rest_some backwards s entry (length piece) at.0 at.1 c.requires.ends at.2 in
    past_here backwards piece s entry c.byte-front.result c.requires.whole two rest.0 rest.1 rest.2 c.byte-front.ensures

pub over_symbol-requires-in-loop-byte-clause-past : goal.over_symbol-requires-in-loop-byte-clause-past
over_symbol-requires-in-loop-byte-clause-past g c =
    let backwards = g.W.Way.BACKWARDS in
    let s = c.args.scalar in
    let piece = c.args.piece.now in
    let place = c.loop-byte.place in
    let low = c.loop-byte.invariant.low in
    let high = c.loop-byte.invariant.high in
    let rest = rest_some backwards s place (length piece) (omega (arith, low)) (omega (arith, high)) c.requires.ends (rest_inside backwards s place low high) in
    past_here backwards piece s place c.byte-byte.result c.requires.whole c.requires.several rest.0 rest.1 rest.2 c.byte-byte.ensures

pub over_symbol-requires-2-clause-past : goal.over_symbol-requires-2-clause-past
over_symbol-requires-2-clause-past g c =
    let backwards = g.W.Way.BACKWARDS in
    let s = c.args.scalar in
    let piece = c.args.piece.now in
    let place = c.loop-byte.place in
    let low = c.loop-byte.invariant.low in
    let high = c.loop-byte.invariant.high in
    let rest = rest_some backwards s place (length piece) (omega (arith, low)) (omega (arith, high)) c.requires.ends (rest_inside backwards s place low high) in
    past_here backwards piece s place c.byte-back.result c.requires.whole c.requires.several rest.0 rest.1 rest.2 c.byte-back.ensures

pub loop-byte-init : goal.loop-byte-init
loop-byte-init g c =
    let backwards = g.W.Way.BACKWARDS in
    let v = g.T.Transitions.view c.args.table.now backwards in
    let s = c.args.scalar in
    let piece = c.args.piece.now in
    let from = entry_of backwards s in
    let entry = c.entry-entry.result in
    let is = c.entry-entry.ensures in
    let two = c.requires.several in
    let at = entry_at backwards s entry two is in
    let rest = rest_some backwards s entry (length piece) at.0 at.1 c.requires.ends at.2 in
    let on = entry_next backwards s entry two is in
    let same = sym c.next-place.ensures in
    record {
      low = subst (λ k. s.first < k) same on.0;
      high = subst (λ k. k < s.end) same on.1;
      row = c.in_ok-stand.ensures.row;
      across = subst (λ k. GoesAcross v backwards c.args.cache.now piece from k c.args.begin c.in_ok-stand.stand) same
          (across_one _ v backwards c.args.cache.now piece from entry c.byte-front.result c.near-near.result c.args.begin c.args.begin c.in_ok-stand.stand rest.0 rest.1
          c.byte-front.ensures (λ o q start lies here. subst (λ k. IsAt v backwards o q c.args.cache.now (start + k) c.args.begin) (sym is) here) c.in_ok-stand.ensures.on
          s c.requires.whole rest.2 (c.near-near.ensures ∙ near_tag backwards s entry two is));
    }

pub loop-byte-preserved : goal.loop-byte-preserved
loop-byte-preserved g c =
    let backwards = g.W.Way.BACKWARDS in
    let v = g.T.Transitions.view c.args.table.now backwards in
    let s = c.args.scalar in
    let piece = c.args.piece.now in
    let place = c.loop-byte.place in
    let at = c.loop-byte.invariant in
    let low = at.low in
    let high = at.high in
    let more : 1 < rest_of backwards s place = omega (arith, c.left.ensures, c.loop-byte-test.true) in
    let rest = rest_some backwards s place (length piece) (omega (arith, low)) (omega (arith, high)) c.requires.ends (rest_inside backwards s place low high) in
    let on = inner_next backwards s place low high more in
    let same = sym c.next-place-in-loop-byte.ensures in
    record {
      low = subst (λ k. s.first < k) same on.0;
      high = subst (λ k. k < s.end) same on.1;
      row = c.in_ok-stand-2.ensures.row;
      across = subst (λ k. GoesAcross v backwards c.args.cache.now piece (entry_of backwards s) k c.args.begin c.in_ok-stand-2.stand) same
          (across_one _ v backwards c.args.cache.now piece (entry_of backwards s) place c.byte-byte.result _ c.args.begin c.loop-byte.stand c.in_ok-stand-2.stand rest.0 rest.1
          c.byte-byte.ensures at.across c.in_ok-stand-2.ensures.on s c.requires.whole rest.2 (mid_tag backwards s place low high more));
    }

pub returns-clause-on : goal.returns-clause-on
returns-clause-on g c =
    let backwards = g.W.Way.BACKWARDS in
    let v = g.T.Transitions.view c.args.table.now backwards in
    let s = c.args.scalar in
    let piece = c.args.piece.now in
    let place = c.loop-byte.place in
    let at = c.loop-byte.invariant in
    let low = at.low in
    let high = at.high in
    let last : rest_of backwards s place ≤ 1 = omega (arith, c.left.ensures, c.loop-byte-test.false) in
    let rest = rest_some backwards s place (length piece) (omega (arith, low)) (omega (arith, high)) c.requires.ends (rest_inside backwards s place low high) in
    IfSome_then c.over_symbol-2.result {P = GoesOver v backwards c.args.cache.now c.byte-back.result c.far-far.result c.loop-byte.stand} c.over_symbol-2.ensures.on
    (λ next over. subst (λ k. GoesAcross v backwards c.args.cache.now piece (entry_of backwards s) k c.args.begin next) (exit_next backwards s place low high last)
    (across_one _ v backwards c.args.cache.now piece (entry_of backwards s) place c.byte-back.result c.far-far.result c.args.begin c.loop-byte.stand next rest.0 rest.1
    c.byte-back.ensures at.across over s c.requires.whole rest.2 (c.far-far.ensures ∙ far_tag backwards s place low high last)))
