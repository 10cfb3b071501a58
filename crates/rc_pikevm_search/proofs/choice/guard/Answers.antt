use Rattle.std.proofs.Common.{Bor, IfSome, Some, ap, inl, map, option_map, subst, sym, ◌∙◌}
use Rattle.rc_pattern.specs.Meaning.{meaning}
use Rattle.rc_program.specs.Text.{Text}
use Rattle.rc_literals.specs.Literals.{Covers}
use Rattle.rc_needles.specs.Prefilters.{needles_of}
use Rattle.rc_literals.specs.Prefixes.{EachBegins}
use Rattle.rc_needles.specs.Tables.{needles_in}
use Rattle.rc_needles.specs.declared.prefilter.Prefilter.{Prefilter}
use Rattle.rc_pikevm_search.proofs.Chosen.{beginnings_cover, covering_made, guard_made, guard_off, none_asked, not_served, prefixes_found}
use Rattle.rc_pikevm_search.proofs.choice.guard.Goals.{in-Some-asked+else-begins_with_one_of, in_default-asked}
use Rattle.rc_pikevm_search.proofs.choice.guard.Goals as goal

pub returns-then-begins_with_one_of-clause-covers :
    goal.returns-then-begins_with_one_of-clause-covers
returns-then-begins_with_one_of-clause-covers c =
    let hs = map meaning c.args.hirs.now in
    let covers = subst (λ o. IfSome o (λ v. (t : Text) → Covers t hs (needles_in v.items))) c.in-Some.is c.in_ok-prefixes.ensures.covers in
    let each = subst (λ z. EachBegins (needles_in z) (needles_of c.in-Some-asked.asked.now)) c.deref.ensures.value
    (c.begins_with_one_of.ensures.0 c.if-begins_with_one_of.true) in
    beginnings_cover hs (needles_in c.in-Some.prefixes.items) (needles_of c.in-Some-asked.asked.now) (needles_of c.in_ok-copy_of.field-0)
    covers each c.in_ok-copy_of.ensures

pub returns-clause-covers : goal.returns-clause-covers
returns-clause-covers c =
    let hs = map meaning c.args.hirs.now in
    covering_made c.from_needles.result hs (needles_in c.in-Some.prefixes.items)
    (subst (λ o. IfSome o (λ v. (t : Text) → Covers t hs (needles_in v.items))) c.in-Some.is c.in_ok-prefixes.ensures.covers)
    c.from_needles.ensures

pub returns-then-begins_with_one_of-clause-guards :
    goal.returns-then-begins_with_one_of-clause-guards
returns-then-begins_with_one_of-clause-guards c =
    let each = subst (λ z. EachBegins (needles_in z) (needles_of c.in-Some-asked.asked.now)) c.deref.ensures.value
    (c.begins_with_one_of.ensures.0 c.if-begins_with_one_of.true) in (
      needles_in c.in-Some.prefixes.items,
      prefixes_found (map meaning c.args.hirs.now) c.in_ok-prefixes.field-0 c.in-Some.prefixes c.in-Some.is c.in_ok-prefixes.ensures.exact,
      inl (
        ap (option_map (λ (a : Bor Prefilter). needles_of a.now)) c.in-Some-asked.is ∙ ap (λ z. Some z) (sym c.in_ok-copy_of.ensures),
        subst (EachBegins (needles_in c.in-Some.prefixes.items)) (sym c.in_ok-copy_of.ensures) each,
      ),
    )

pub returns-then-not-is_auto-clause-guards :
    goal.returns-then-not-is_auto-clause-guards
returns-then-not-is_auto-clause-guards c =
    let ws = needles_in c.in-Some.prefixes.items in
    guard_off (map meaning c.args.hirs.now) (option_map (λ (a : Bor Prefilter). needles_of a.now) c.args.asked) c.args.is_auto ws
    (prefixes_found (map meaning c.args.hirs.now) c.in_ok-prefixes.field-0 c.in-Some.prefixes c.in-Some.is c.in_ok-prefixes.ensures.exact)
    c.if-not-is_auto.true
    (elim c.match-asked.branch [
      | in-Some-asked+else-begins_with_one_of w ↦
          not_served c.args.asked w.in-Some-asked.asked ws (needles_in w.deref.result.now) w.begins_with_one_of.result w.in-Some-asked.is
          (ap needles_in w.deref.ensures.value) w.begins_with_one_of.ensures w.if-begins_with_one_of.false
      | in_default-asked w ↦ none_asked c.args.asked ws w.in_default-asked.is
    ])

pub returns-clause-guards : goal.returns-clause-guards
returns-clause-guards c =
    let ws = needles_in c.in-Some.prefixes.items in
    guard_made c.from_needles.result (map meaning c.args.hirs.now) (option_map (λ (a : Bor Prefilter). needles_of a.now) c.args.asked) c.args.is_auto ws
    (prefixes_found (map meaning c.args.hirs.now) c.in_ok-prefixes.field-0 c.in-Some.prefixes c.in-Some.is c.in_ok-prefixes.ensures.exact)
    c.if-not-is_auto.false
    (elim c.match-asked.branch [
      | in-Some-asked+else-begins_with_one_of w ↦
          not_served c.args.asked w.in-Some-asked.asked ws (needles_in w.deref.result.now) w.begins_with_one_of.result w.in-Some-asked.is
          (ap needles_in w.deref.ensures.value) w.begins_with_one_of.ensures w.if-begins_with_one_of.false
      | in_default-asked w ↦ none_asked c.args.asked ws w.in_default-asked.is
    ])
    c.from_needles.ensures
