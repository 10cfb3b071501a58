use Rattle.std.proofs.Common.{◌≡◌, arith, inl, inr, subst}
use Rattle.std.proofs.lemmas.Bool.{cases_lt}
use Rattle.rc_needles.specs.Tables.{IsRuledOut, needles_in, numbered}
use Rattle.rc_needles.proofs.ScanLemmas.{agrees_in_tail}
use Rattle.rc_needles.proofs.StandLemmas.{needle_count}
use Rattle.rc_needles.proofs.many.candidate_in.Goals as goal

pub loop-at-init : goal.loop-at-init
loop-at-init c =
    let needles = needles_in c.args.table.now.needles.items in
    let first = c.opened_from-at.ensures in
    record {
      within = first.within (omega arith);
      passed = λ k l n m. first.passed (numbered needles n) (λ whole. c.requires.1 whole n m) k (omega arith) l;
    }

pub number_seen-number-requires-clause-none_earlier : goal.number_seen-number-requires-clause-none_earlier
number_seen-number-requires-clause-none_earlier c k l m agrees =
    let table = c.args.table.now in
    let needle = numbered (needles_in table.needles.items) k in
    let le = c.in-Some.ensures needle k (c.requires.0 k m) (table.some k m) (agrees_in_tail c.args.piece.now needle c.loop-at.at agrees) in
    omega (arith, le, l)

pub loop-at-preserved : goal.loop-at-preserved
loop-at-preserved c =
    let table = c.args.table.now in
    let needles = needles_in table.needles.items in
    let piece = c.args.piece.now in
    let at = c.loop-at.at in
    let next = c.opened_from-at-in-loop-at.ensures in
    record {
      within = next.within (omega (arith, c.loop-at-test.true));
      passed = λ k l.
          elim (cases_lt k at) [
            | inl h ↦ c.loop-at.invariant.passed k h
            | inr g ↦ elim (cases_lt at k) [
              | inl h ↦ λ n m. next.passed (numbered needles n) (λ whole. c.requires.1 whole n m) k (omega (arith, h)) l
              | inr h ↦
                  let here : at ≡ k = omega (arith, g, h) in
                  subst (IsRuledOut needles 0 piece) here
                  (λ n m agrees.
                  let le = c.in-Some.ensures (numbered needles n) n (c.requires.0 n m) (table.some n m) (agrees_in_tail piece (numbered needles n) at agrees) in
                  omega (arith, le, m, c.if-number-count.false, needle_count table.needles.items))
            ]
          ];
    }
