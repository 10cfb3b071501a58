use Rattle.std.proofs.Common.{false, ◌∙◌, subst, sym}
use Rattle.stream_search.specs.Streams.{MayBecome}
use Rattle.stream_search.proofs.Listed.{passes}
use Rattle.stream_search.proofs.list.ListStepperOf.seek.Goals as goal

pub returns-clause-told : goal.returns-clause-told
returns-clause-told g c =
    let m = c.in_ok-found.found in
    let first = c.in_ok-found.ensures in
    let again = sym c.is_again.ensures ∙ c.if-not-is_again.false in
    let kept = c.set_start.ensures.keeps.content ∙ first.keeps.content in
    λ content b told was.
    c.search-2.ensures.told content (subst (λ x. MayBecome false x content) (sym kept) b) told
    (passes c.self.view_is content told (first.told content b told was) m c.self.invariant again (first.found content b))

pub returns-clause-found : goal.returns-clause-found
returns-clause-found g c =
    let kept = c.set_start.ensures.keeps.content ∙ c.in_ok-found.ensures.keeps.content in
    λ content b. c.search-2.ensures.found content (subst (λ x. MayBecome false x content) (sym kept) b)
