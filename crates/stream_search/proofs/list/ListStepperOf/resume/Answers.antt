use Rattle.std.proofs.Common.{◌∙◌, ap, refl, subst, sym, take}
use Rattle.stream_search.specs.Listing.{Adds, HasNone, HasTold}
use Rattle.stream_search.specs.Searches.{matches_of}
use Rattle.stream_search.proofs.Listed.{both, goes_on, no_more, told_all}
use Rattle.stream_search.proofs.list.ListStepperOf.resume.Goals as goal
use Rattle.stream_search.proofs.list.ListStepperOf.resume.Goals.{then-branch+in_ok-add, else-branch}

pub returns-then-not-has_byte-clause-all : goal.returns-then-not-has_byte-clause-all
returns-then-not-has_byte-clause-all g c =
    let content = g.C.Cursor.content c.args.cursor in
    let s = c.add_rest.new.self in
    let none = subst (λ x. HasNone x s) c.has_byte.ensures.content c.in_ok-add_rest.ensures.none in
    λ last told was. told_all s.regex content told s.from s.last was none ∙ ap (λ r. matches_of r content) c.add_rest.ensures.regex

pub returns-in_err-add_settled-clause-adds : goal.returns-in_err-add_settled-clause-adds
returns-in_err-add_settled-clause-adds g c =
    let content = g.C.Cursor.content c.args.cursor in
    let end = c.slice_end-end.result in
    c.in_err-add_settled.ensures.adds content
    (goes_on content c.input_from-input.result.content end
    (c.input_from-input.ensures.content ∙ c.new.ensures.content ∙ ap (take end) (c.seek.ensures.content ∙ c.has_byte.ensures.content)))

pub returns-in_err-add-clause-adds : goal.returns-in_err-add-clause-adds
returns-in_err-add-clause-adds g c =
    let content = g.C.Cursor.content c.args.cursor in
    let end = c.slice_end-end.result in
    let shown = c.input_from-input.ensures.content ∙ c.new.ensures.content ∙ ap (take end) (c.seek.ensures.content ∙ c.has_byte.ensures.content) in
    let first = c.in_ok-add_settled.ensures in
    both (first.adds content (goes_on content c.input_from-input.result.content end shown))
    (c.in_err-add.ensures.adds content (goes_on content c.add_settled.new.input.content end (first.content ∙ shown)))

pub returns-clause-adds : goal.returns-clause-adds
returns-clause-adds g c =
    let content = g.C.Cursor.content c.args.cursor in
    let s = c.args.self.now in
    let items = c.args.matches.now.items in
    let end = c.slice_end-end.result in
    let shown = c.input_from-input.ensures.content ∙ c.new.ensures.content ∙ ap (take end) (c.seek.ensures.content ∙ c.has_byte.ensures.content) in
    let first = c.in_ok-add_settled.ensures in
    let settled = first.adds content (goes_on content c.input_from-input.result.content end shown) in
    let reached : Adds content s items c.if-branch.self c.if-branch.matches.items =
    elim c.if-branch.branch [
      | then-branch+in_ok-add w ↦
          subst (λ x. Adds content s items c.if-branch.self (x.items)) (sym w.matches-is)
          (subst (λ x. Adds content s items x w.add.new.matches.items) (sym w.self-is)
          (both settled (w.in_ok-add.ensures.adds content (goes_on content c.add_settled.new.input.content end (first.content ∙ shown)))))
      | else-branch w ↦
          subst (λ x. Adds content s items c.if-branch.self (x.items)) (sym w.matches-is)
          (subst (λ x. Adds content s items x c.add_settled.new.matches.items) (sym w.self-is) settled)
    ] in
    no_more reached c.if-branch.matches.items refl (λ told was. subst (HasTold content told) (sym c.self-2.view_is) was)
