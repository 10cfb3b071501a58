use Rattle.std.proofs.Common.{sym, subst, ◌∙◌, arith, refl, []}
use Rattle.std.proofs.lemmas.Bool.{false≢true}
use Rattle.std.proofs.lemmas.Option.{get_or_from_slice_get, slice_get_within}
use Rattle.rc_needles.proofs.StandLemmas.{needle_count}
use Rattle.rc_literals.proofs.CoverLemmas.{all_get}
use Rattle.rc_literals.proofs.ExtractionLemmas.{one_more_held, all_held}
use Rattle.rc_literals.proofs.BeginLemmas.{needle_got}
use Rattle.rc_needles.specs.Prefilters.{needles_of}
use Rattle.rc_literals.specs.Prefixes.{BeginsWithOne}
use Rattle.rc_needles.specs.Tables.{needles_in}
use Rattle.rc_literals.proofs.prefixes.begins_with_one_of.Goals as goal

pub returns-then-not-begins_with_needle : goal.returns-then-not-begins_with_needle
returns-then-not-begins_with_needle c =
    let got = needle_got c.args.prefixes.now c.args.prefixes.now c.loop-prefix.prefix-index c.prefix-item.result refl c.loop-prefix-test.true c.prefix-item.is in (
      (λ t. absurd (false≢true t)),
      (λ each. absurd (false≢true (sym c.if-not-begins_with_needle.true ∙ c.begins_with_needle.ensures.1
          (subst (BeginsWithOne (needles_of c.args.prefilter.now)) (sym c.as_slice.ensures.value)
          (all_get (BeginsWithOne (needles_of c.args.prefilter.now)) (needles_in c.args.prefixes.now) c.loop-prefix.prefix-index
          c.prefix-item.result.items each got))))),
    )

pub loop-prefix-preserved : goal.loop-prefix-preserved
loop-prefix-preserved c =
    let got = needle_got c.args.prefixes.now c.args.prefixes.now c.loop-prefix.prefix-index c.prefix-item.result refl c.loop-prefix-test.true c.prefix-item.is in
    let ws = needles_in c.args.prefixes.now in
    let i = c.loop-prefix.prefix-index in
    let here = c.begins_with_needle.ensures.0 c.if-not-begins_with_needle.false in
    one_more_held (BeginsWithOne (needles_of c.args.prefilter.now)) (BeginsWithOne (needles_of c.args.prefilter.now)) ws i []
    (slice_get_within ws i c.prefix-item.result.items got) (λ y p. p) c.loop-prefix.invariant
    (subst (BeginsWithOne (needles_of c.args.prefilter.now))
    (c.as_slice.ensures.value ∙ sym (get_or_from_slice_get ws i c.prefix-item.result.items [] got)) here)

pub returns : goal.returns
returns c =
    let ws = needles_in c.args.prefixes.now in (
      (λ t. all_held (BeginsWithOne (needles_of c.args.prefilter.now)) ws c.loop-prefix.prefix-index
          (omega (arith, c.loop-prefix-test.false, needle_count c.args.prefixes.now)) c.loop-prefix.invariant),
      (λ b. refl),
    )
