use Rattle.std.proofs.Common.{◌≡◌, None, arith, inl, inr, length, subst, ◌∙◌}
use Rattle.std.proofs.lemmas.Bool.{cases_lt}
use Rattle.rc_needles.specs.Needles.{needle_at}
use Rattle.rc_needles.specs.Tables.{needles_in, numbered}
use Rattle.rc_needles.proofs.StandLemmas.{numbered_in, needle_count}
use Rattle.rc_needles.proofs.LongLemmas.{none_at_all}
use Rattle.rc_needles.proofs.long.next_place.Goals as goal

pub returns-clause-passed : goal.returns-clause-passed
returns-clause-passed g c i low high =
    let vs = c.args.searcher.now.table.needles.items in
    let needles = needles_in vs in
    let needle = c.as_slice-needle.result.now in
    let start = c.next_start-start.result in
    let one : length needles ≡ 1 = c.requires.one in
    let own : needle ≡ numbered needles 0 = c.as_slice-needle.ensures.value ∙ numbered_in vs 0 c.index.result.now (omega (arith, one, needle_count vs)) c.index.ensures in
    let zero = c.requires.from_start in
    elim (cases_lt i start) [
      | inl l ↦ none_at_all needles c.args.input.now.content needle c.args.end i one own (c.next_start-start.ensures.passed i low l)
      | inr h ↦ subst (λ t. needle_at needles t c.args.end i ≡ None) c.next_start-start.ensures.keeps.content
          (c.place_from.ensures.passed i (omega (arith, h, zero)) (omega (arith, high, zero)))
    ]
