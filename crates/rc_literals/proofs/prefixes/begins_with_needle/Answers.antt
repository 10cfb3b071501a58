use Rattle.std.proofs.Common.{◌<◌, length, ap, subst, arith, refl}
use Rattle.std.proofs.lemmas.Bool.{false≢true}
use Rattle.std.proofs.lemmas.Option.{slice_get_within}
use Rattle.rc_needles.proofs.StandLemmas.{needle_count}
use Rattle.rc_literals.proofs.BeginLemmas.{needle_got, begins_when, begins_not, one_more_not}
use Rattle.rc_needles.specs.Prefilters.{needles_of}
use Rattle.rc_literals.specs.Prefixes.{BeginsWith}
use Rattle.rc_needles.specs.Tables.{needles_in}
use Rattle.rc_literals.proofs.prefixes.begins_with_needle.Goals as goal

pub returns-then-starts_with : goal.returns-then-starts_with
returns-then-starts_with c =
    let got = needle_got c.args.prefilter.now.searcher.table.needles.items c.deref-needle-items.result.now c.loop-needle.needle-index c.needle-item.result
    c.deref-needle-items.ensures.value c.loop-needle-test.true c.needle-item.is in (
      (λ t. (
        c.loop-needle.needle-index,
        c.needle-item.result.items,
        got,
        subst (BeginsWith c.args.bytes.now) c.as_slice.ensures.value
            (begins_when c.args.bytes.now c.as_slice.result.now c.starts_with.result c.starts_with.ensures.value c.if-starts_with.true),
      )),
      (λ b. refl),
    )

pub loop-needle-preserved : goal.loop-needle-preserved
loop-needle-preserved c =
    let got = needle_got c.args.prefilter.now.searcher.table.needles.items c.deref-needle-items.result.now c.loop-needle.needle-index c.needle-item.result
    c.deref-needle-items.ensures.value c.loop-needle-test.true c.needle-item.is in
    one_more_not (needles_of c.args.prefilter.now) c.args.bytes.now c.needle-item.result.items c.loop-needle.needle-index c.loop-needle.invariant got
    (subst (λ w. ¬ BeginsWith c.args.bytes.now w) c.as_slice.ensures.value
    (begins_not c.args.bytes.now c.as_slice.result.now c.starts_with.result c.starts_with.ensures.value c.if-starts_with.false))

pub returns : goal.returns
returns c =
    let vs = c.args.prefilter.now.searcher.table.needles.items in (
      (λ t. absurd (false≢true t)),
      (λ b.
          let l = slice_get_within (needles_in vs) b.0 b.1 b.2 in
          let inside : b.0 < c.loop-needle.needle-index =
          omega (arith, l, needle_count vs, c.loop-needle-test.false, ap length c.deref-needle-items.ensures.value) in
          absurd (c.loop-needle.invariant b.0 b.1 inside b.2 b.3)),
    )
