use Rattle.std.proofs.Common.{◌≡◌, ◌∙◌, sym, true, false, bit_or}
use Rattle.std.proofs.lemmas.Bool.{false≢true}
use Rattle.std.proofs.lemmas.Simd.{length-zip2}
use Rattle.rc_needles.proofs.TeddyLemmas.{halves_fit, high_set, low_set, some_high, some_low}
use Rattle.rc_needles.proofs.teddy.marks_of_both.Goals as goal

pub has_some-requires : goal.has_some-requires
has_some-requires c = length-zip2 bit_or c.args.low c.args.high (c.requires.low ∙ sym c.requires.high) ∙ c.requires.low

pub returns-then-not-has_some-clause-low : goal.returns-then-not-has_some-clause-low
returns-then-not-has_some-clause-low c k l some =
    let yes : c.has_some.result ≡ true = c.has_some.ensures k l (some_low c.args.low c.args.high k c.requires.low c.requires.high l some) in
    let no : c.has_some.result ≡ false = c.if-not-has_some.true in
    absurd (false≢true (sym no ∙ yes))

pub returns-then-not-has_some-clause-high : goal.returns-then-not-has_some-clause-high
returns-then-not-has_some-clause-high c k l some =
    let yes : c.has_some.result ≡ true = c.has_some.ensures k l (some_high c.args.low c.args.high k c.requires.low c.requires.high l some) in
    let no : c.has_some.result ≡ false = c.if-not-has_some.true in
    absurd (false≢true (sym no ∙ yes))

pub returns-clause-small : goal.returns-clause-small
returns-clause-small c = halves_fit c.marks_of.result c.marks_of-2.result c.marks_of.ensures.small c.marks_of-2.ensures.small

pub returns-clause-low : goal.returns-clause-low
returns-clause-low c k l some = low_set c.marks_of.result c.marks_of-2.result k (c.marks_of.ensures.set k l some)

pub returns-clause-high : goal.returns-clause-high
returns-clause-high c k l some = high_set c.marks_of.result c.marks_of-2.result k c.marks_of-2.ensures.small (c.marks_of-2.ensures.set k l some)
