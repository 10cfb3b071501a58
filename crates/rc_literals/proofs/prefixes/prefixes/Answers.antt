use Rattle.std.proofs.Common.{ap, map, sym, ◌∙◌, true≢false}
use Rattle.rc_pattern.specs.Meaning.{alt_all, meaning}
use Rattle.rc_literals.specs.Extraction.{are_too_many}
use Rattle.rc_needles.specs.Tables.{needles_in}
use Rattle.rc_literals.proofs.ExtractionLemmas.{are_prefixes, covers_alt, first_hold, no_room, not_kept, not_usable}
use Rattle.rc_literals.proofs.prefixes.prefixes.Goals.{then-not-branch-via-then-not-branch, then-not-branch-via-else-not-branch+then-not-is_usable}
use Rattle.rc_literals.proofs.prefixes.prefixes.Goals as goal

pub returns-then-not-branch-clause-exact : goal.returns-then-not-branch-clause-exact
returns-then-not-branch-clause-exact c =
    let hs = map meaning c.args.hirs.now in
    let begun = needles_in c.new-list.result.items in
    let new = needles_in c.add_alternation.new.list.items in
    let empty = ap needles_in c.new-list.ensures.items in
    elim c.then-not-branch.branch [
      | then-not-branch-via-then-not-branch w ↦
          no_room hs begun new c.in_ok-add_alternation.field-0 empty c.in_ok-add_alternation.ensures w.if-not-branch.true
      | then-not-branch-via-else-not-branch+then-not-is_usable w ↦
          not_usable hs begun new c.in_ok-add_alternation.field-0 empty c.in_ok-add_alternation.ensures w.if-not-branch.false
          (λ usable. true≢false (sym (w.is_usable.ensures.1 usable) ∙ w.if-not-is_usable.true))
    ]

pub returns-then-are_too_many-clause-exact : goal.returns-then-are_too_many-clause-exact
returns-then-are_too_many-clause-exact c =
    not_kept (map meaning c.args.hirs.now) (needles_in c.new-list.result.items) (needles_in c.add_alternation.new.list.items)
    c.in_ok-add_alternation.field-0 (ap needles_in c.new-list.ensures.items) c.in_ok-add_alternation.ensures c.if-not-branch.false
    (sym (c.are_too_many.ensures ∙ ap (λ vs. are_too_many (needles_in vs)) c.deref.ensures.value) ∙ c.if-are_too_many.true)

pub returns-clause-exact : goal.returns-clause-exact
returns-clause-exact c =
    are_prefixes (map meaning c.args.hirs.now) (needles_in c.new-list.result.items) (needles_in c.add_alternation.new.list.items)
    c.in_ok-add_alternation.field-0 (ap needles_in c.new-list.ensures.items) c.in_ok-add_alternation.ensures c.if-not-branch.false
    (c.is_usable.ensures.0 c.if-not-is_usable.false)
    (sym (c.are_too_many.ensures ∙ ap (λ vs. are_too_many (needles_in vs)) c.deref.ensures.value) ∙ c.if-are_too_many.false)

pub returns-clause-covers : goal.returns-clause-covers
returns-clause-covers c =
    let hs = map meaning c.args.hirs.now in
    let new = needles_in c.add_alternation.new.list.items in
    let p = are_prefixes hs (needles_in c.new-list.result.items) new c.in_ok-add_alternation.field-0 (ap needles_in c.new-list.ensures.items)
    c.in_ok-add_alternation.ensures c.if-not-branch.false (c.is_usable.ensures.0 c.if-not-is_usable.false)
    (sym (c.are_too_many.ensures ∙ ap (λ vs. are_too_many (needles_in vs)) c.deref.ensures.value) ∙ c.if-are_too_many.false) in
    covers_alt new hs (first_hold (alt_all hs) new p.are)
