use Rattle.std.proofs.Common.{◌≡◌, ◌∙◌, ◌+◌, ◌<◌, true, length, ap, arith, slice_range, sym}
use Rattle.std.specs.Prelude.{bytes_eq}
use Rattle.std.proofs.lemmas.Slice.Eq.{bytes_eq-Decides}
use Rattle.rc_needles.specs.Tables.{numbered}
use Rattle.rc_needles.specs.Prefilters.{needles_of}
use Rattle.rc_needles.proofs.RelationLemmas.{stand_of}
use Rattle.rc_needles.proofs.StandLemmas.{needle_count, numbered_in}
use Rattle.rc_words.proofs.search.stands_to.Goals as goal

pub returns-clause-stands : goal.returns-clause-stands
returns-clause-stands g c t =
    let content = c.args.input.now.content in
    let vs = c.args.words.now.needles.searcher.table.needles.items in
    let n = c.args.number in
    let needle = numbered (needles_of c.args.words.now.needles) n in
    let count = needle_count vs in
    let l : n < length vs = omega (arith, c.requires.number, count) in
    let read : c.as_slice-needle.result.now ≡ needle = c.as_slice-needle.ensures.value ∙ numbered_in vs n c.index.result.now l c.index.ensures in
    let is : bytes_eq (slice_range content c.args.at (c.args.at + length needle)) needle ≡ true =
    ap (λ w. bytes_eq (slice_range content c.args.at (c.args.at + length w)) w) (sym read) ∙ sym c.stands_by_pieces.ensures.value ∙ t in
    let long = ap length read in (
      omega (arith, c.if-needle-to.false, long, c.requires.ordered, c.as_slice-needle.ensures.len),
      stand_of content needle c.args.at ((bytes_eq-Decides (slice_range content c.args.at (c.args.at + length needle)) needle).0 is),
    )
