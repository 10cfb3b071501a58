use Rattle.std.proofs.Common.{◌≤◌, ap, arith, inl, inr, length, refl, sym, true≢false}
use Rattle.std.proofs.lemmas.Bool.{cases_lt}
use Rattle.stream_search.specs.Stepping.{Stepping}
use Rattle.stream_search.proofs.Steps.{done_in, on_in, settled_in}
use Rattle.stream_search.proofs.step.StepperOf.resume.Goals as goal

pub search_opening-requires-clause-before : goal.search_opening-requires-clause-before
search_opening-requires-clause-before g c =
    let a = ap (λ (s : Stepping). s.from) c.self.view_is in
    let b = ap (λ (s : Stepping). s.position) c.self.view_is in
    let end = c.slice_end-end.ensures in
    let order = c.self.invariant in
    let inside = c.if-not-has_byte.ensures.has.0 refl in
    let below = c.if-not-has_byte.ensures.below refl in
    omega (arith, a, b, end, order, below)

pub invariant_of-self-in-From : goal.invariant_of-self-in-From
invariant_of-self-in-From g c = c.in-From.ensures.onward.1

pub returns-in-Final-clause-done : goal.returns-in-Final-clause-done
returns-in-Final-clause-done g c =
    λ start way. done_in c.self.view_is (g.C.Cursor.content c.args.cursor) (g.C.Cursor.content c.has_byte.new.cursor) c.has_byte.ensures.content
    c.slice_end-end.result start way c.in-Final.found c.in-Final.ensures.told

pub returns-in-From-clause-goes_on : goal.returns-in-From-clause-goes_on
returns-in-From-clause-goes_on g c =
    λ start way. on_in c.self.view_is (g.C.Cursor.content c.args.cursor) (g.C.Cursor.content c.has_byte.new.cursor) c.has_byte.ensures.content
    c.slice_end-end.result start way c.in-From.place (g.F.PartialFinder.searched_by c.search_opening.new.finder) c.search_opening.ensures.regex c.in-From.ensures.told

pub returns-in-From-clause-sliced : goal.returns-in-From-clause-sliced
returns-in-From-clause-sliced g c =
    let a = ap (λ (s : Stepping). s.from) c.self.view_is in
    let b = ap (λ (s : Stepping). s.position) c.self.view_is in
    let end = c.slice_end-end.ensures in
    let order = c.self.invariant in
    let inside = c.if-not-has_byte.ensures.has.0 refl in
    let below = c.if-not-has_byte.ensures.below refl in
    let low = c.in-From.ensures.onward.0 in
    record { position = omega (arith, end, below); inside = inside; onward = omega (arith, a, low); within = c.in-From.ensures.onward.1 }

-- the content ends in the slice
pub returns-then-not-has_byte-clause-settled : goal.returns-then-not-has_byte-clause-settled
returns-then-not-has_byte-clause-settled g c =
    let content = g.C.Cursor.content c.args.cursor in
    let end = c.slice_end-end.result in
    let ends : length content ≤ end =
    elim (cases_lt end (length content)) [
      | inl lt ↦ absurd (true≢false (sym (c.if-not-has_byte.ensures.has.1 lt)))
      | inr le ↦ le
    ] in
    inl (omega (arith, c.slice_end-end.ensures, ends))

-- the bytes of the slice settle the match
pub returns-in-Final-clause-settled : goal.returns-in-Final-clause-settled
returns-in-Final-clause-settled g c =
    let below = c.if-not-has_byte.ensures.below refl in
    inr
    (settled_in c.self.view_is (g.C.Cursor.content c.args.cursor) (g.C.Cursor.content c.has_byte.new.cursor) c.has_byte.ensures.content
    c.slice_end-end.result _ (omega (arith, c.slice_end-end.ensures, below)) c.in-Final.found c.in-Final.ensures.told)
