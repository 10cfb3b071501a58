use Rattle.std.proofs.Common.{true≢false, ap, arith, length, sym, ◌∙◌}
use borrow.Author.Tests.{leb-true}
use Rattle.stream_search.proofs.Grouped.{groups_inside, here_inside, match_inside}
use Rattle.stream_search.proofs.stream.StreamSearcherOf.write_groups.Goals as goal

pub returns-then-self-clause-groups : goal.returns-then-self-clause-groups
returns-then-self-clause-groups g c =
    let w = c.search_captures_reach_with-reach in
    λ fed holds yes. groups_inside c.self.view_is fed holds c.self.invariant c.as_slice.result.now c.as_slice.ensures.value c.its_regex-regex.result.now
    c.its_regex-regex.ensures c.input_from-input.result c.input_from-input.ensures.search w.new.caps w.result
    (λ going. absurd (true≢false (sym c.if-self.true ∙ going))) w.ensures.told_by w.ensures.settled

pub returns-else-self-clause-groups : goal.returns-else-self-clause-groups
returns-else-self-clause-groups g c =
    let w = c.search_captures_reach_with-reach in
    λ fed holds yes. groups_inside c.self.view_is fed holds c.self.invariant c.as_slice.result.now c.as_slice.ensures.value c.its_regex-regex.result.now
    c.its_regex-regex.ensures c.input_from-input.result c.input_from-input.ensures.search w.new.caps w.result
    (λ going. let few = leb-true w.result c.len.result yes in let l = c.len.ensures in let k = ap length c.as_slice.ensures.value in omega (arith, few, l, k))
    w.ensures.told_by w.ensures.settled

pub returns-then-self-clause-matched : goal.returns-then-self-clause-matched
returns-then-self-clause-matched g c =
    let w = c.search_captures_reach_with-reach in
    λ fed holds. match_inside c.self.view_is fed holds c.self.invariant c.as_slice.result.now c.as_slice.ensures.value c.its_regex-regex.result.now
    c.its_regex-regex.ensures c.input_from-input.result c.input_from-input.ensures.search w.new.caps w.ensures.matched_by

pub returns-else-self-clause-matched : goal.returns-else-self-clause-matched
returns-else-self-clause-matched g c =
    let w = c.search_captures_reach_with-reach in
    λ fed holds. match_inside c.self.view_is fed holds c.self.invariant c.as_slice.result.now c.as_slice.ensures.value c.its_regex-regex.result.now
    c.its_regex-regex.ensures c.input_from-input.result c.input_from-input.ensures.search w.new.caps w.ensures.matched_by

pub returns-then-self-clause-here : goal.returns-then-self-clause-here
returns-then-self-clause-here g c =
    here_inside c.self.view_is c.as_slice.result.now c.as_slice.ensures.value c.its_regex-regex.result.now c.its_regex-regex.ensures
    c.input_from-input.result c.input_from-input.ensures.search c.search_captures_reach_with-reach.new.caps c.search_captures_reach_with-reach.ensures.told_by

pub returns-else-self-clause-here : goal.returns-else-self-clause-here
returns-else-self-clause-here g c =
    here_inside c.self.view_is c.as_slice.result.now c.as_slice.ensures.value c.its_regex-regex.result.now c.its_regex-regex.ensures
    c.input_from-input.result c.input_from-input.ensures.search c.search_captures_reach_with-reach.new.caps c.search_captures_reach_with-reach.ensures.told_by
