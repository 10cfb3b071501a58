use Rattle.std.proofs.Common.{◌≡◌, ◌∙◌, ℕ, ◌+◌, ◌<◌, zero, suc, refl, List, [], ◌∷◌, ◌++◌, length, get_or, map, take, IsTrue, true≢false, ap, sym, subst, arith}
use Rattle.std.proofs.lemmas.List.{get_or-map, length-map, map_more, take_all}
use Rattle.std.proofs.lemmas.List.Elements.{All-append}
use Rattle.rc_pattern.specs.Re.{Re}
use Rattle.rc_pattern.specs.declared.hir.Hir.{Hir}
use Rattle.rc_pattern.specs.Meaning.{meaning}
use Rattle.rc_pattern.specs.Properties.{is_plain}
use Rattle.rc_parses.specs.Preference.{ArePlain}
use Rattle.api_meta.proofs.regex.Regex.is_plain.Goals as goal

abbrev IsPlain : Re → Type 0
IsPlain h = IsTrue (is_plain h)

-- one more is plain
more : (hirs : List Hir) (i : ℕ) (h : Hir) → i < length hirs → h ≡ get_or hirs i h → IsTrue (is_plain (meaning h)) → ArePlain (map meaning (take i hirs)) →
    ArePlain (map meaning (take (i + 1) hirs))
more hirs i h l e plain before =
    subst ArePlain (sym (map_more meaning hirs i h l ∙ ap (λ x. map meaning (take i hirs) ++ meaning x ∷ []) (sym e)))
    (All-append IsPlain (map meaning (take i hirs)) (meaning h ∷ []) before one)
  where
    one : ArePlain (meaning h ∷ [])
    one k d m = only k d m
      where
        only : (k : ℕ) (d : Re) → k < 1 → IsTrue (is_plain (get_or (meaning h ∷ []) k d))
        only zero d m = plain
        only (suc k) d m = absurd (omega (arith, m))

-- one of plain patterns is plain
each : (hirs : List Hir) (i : ℕ) (h : Hir) → i < length hirs → h ≡ get_or hirs i h → ArePlain (map meaning hirs) → IsTrue (is_plain (meaning h))
each hirs i h l e all =
    let same : length (map meaning hirs) ≡ length hirs = length-map hirs meaning in
    subst IsPlain (get_or-map meaning hirs i h (meaning h) l ∙ ap meaning (sym e)) (all i (meaning h) (omega (arith, l, same)))

pub returns-then-not-is_plain : goal.returns-then-not-is_plain
returns-then-not-is_plain c =
    let known = c.is_plain.ensures.exact (meaning c.hir-item.result) c.properties_of.ensures in (
      λ e. absurd (true≢false (sym e)),
      λ all.
          sym c.if-not-is_plain.true ∙ known ∙ each c.deref-hir-items.result.now c.loop-hir.hir-index c.hir-item.result c.loop-hir-test.true c.hir-item.is
          (subst (λ xs. ArePlain (map meaning xs)) (sym c.deref-hir-items.ensures.value) all),
    )

pub loop-hir-preserved : goal.loop-hir-preserved
loop-hir-preserved c =
    more c.deref-hir-items.result.now c.loop-hir.hir-index c.hir-item.result c.loop-hir-test.true c.hir-item.is
    (sym (c.is_plain.ensures.exact (meaning c.hir-item.result) c.properties_of.ensures) ∙ c.if-not-is_plain.false) c.loop-hir.invariant

pub returns : goal.returns
returns c = (
  λ _. subst (λ xs. ArePlain (map meaning xs))
      (take_all c.loop-hir.hir-index c.deref-hir-items.result.now (omega (arith, c.loop-hir-test.false)) ∙ c.deref-hir-items.ensures.value) c.loop-hir.invariant,
  λ _. refl,
)
