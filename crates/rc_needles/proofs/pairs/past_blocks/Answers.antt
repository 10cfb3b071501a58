use Rattle.std.proofs.Common.{◌≡◌, ◌+◌, ◌∙◌, arith, false, inl, inr, sym, true}
use Rattle.std.proofs.lemmas.Bool.{cases_lt, false≢true}
use Rattle.rc_needles.proofs.BlockLemmas.{long_or, no_pair_in_block}
use Rattle.rc_needles.proofs.pairs.past_blocks.Goals as goal

pub has_some-requires : goal.has_some-requires
has_some-requires c =
    let one = c.pair_lanes in
    let two = c.pair_lanes-in-loop-at in
    let three = c.pair_lanes-in-loop-at-2 in
    let four = c.pair_lanes-in-loop-at-3 in
    long_or _ _ (long_or one.result two.result one.ensures.long two.ensures.long) (long_or three.result four.result three.ensures.long four.ensures.long)

pub loop-at-preserved : goal.loop-at-preserved
loop-at-preserved c =
    let at = c.loop-at.at in
    let one = c.pair_lanes in
    let two = c.pair_lanes-in-loop-at in
    let three = c.pair_lanes-in-loop-at-2 in
    let four = c.pair_lanes-in-loop-at-3 in
    let no : c.has_some.result ≡ false = c.if-has_some.false in
    record {
      from = omega (arith, c.loop-at.invariant.from);
      most = omega (arith, c.loop-at-test.true);
      within = λ _. omega (arith, c.loop-at-test.true);
      none = λ k from lt. elim (cases_lt k at) [
        | inl l ↦ c.loop-at.invariant.none k from l
        | inr g ↦ no_pair_in_block c.args.first c.args.second c.args.piece.now one.result two.result three.result four.result at one.ensures.long two.ensures.long
            three.ensures.long four.ensures.long one.ensures.set two.ensures.set three.ensures.set four.ensures.set
            (λ i l some. let yes : c.has_some.result ≡ true = c.has_some.ensures i l some in false≢true (sym no ∙ yes)) k g lt
      ];
    }
