use Rattle.std.proofs.Common.{rules, ◌≡◌, ◌-◌, length, sym, ap, ◌∙◌, arith, max}
use Rattle.std.proofs.lemmas.Grind.{common_steps}
use Rattle.std.proofs.lemmas.List.{get_or_read}
use Rattle.rc_pattern.specs.Re.{Re, literal}
use Rattle.rc_pattern.specs.Meaning.{kind_meaning}
use Rattle.rc_pattern.specs.declared.hir.HirKind.TheFolds
use Rattle.rc_pattern.specs.declared.hir.HirKind.TheVariants as HirKind
use Rattle.rc_pattern.specs.declared.hir.Repetition.{out-Repetition}
use Rattle.rc_pattern.proofs.FoldLemmas.{kind_Literal}
use Rattle.rc_compile.specs.Shown.{laid}
use Rattle.rc_compile.proofs.SizeLemmas.{literal_size, on_size, to_size, on_body, to_body, cat_member, alt_member}
use Rattle.rc_compile.proofs.compile.sizes.+size.Goals as goal

pub size-returns-in-Literal : goal.size-returns-in-Literal
size-returns-in-Literal t c =
    let e : c.max.result ≡ max (length c.in-Literal.bytes.items) 1 = omega (arith, c.max.ensures, c.len.ensures, c.in-Literal.bytes.ok.0) in
    let k : kind_meaning (HirKind.Literal c.in-Literal.bytes) ≡ literal c.in-Literal.bytes.items = kind_Literal c.in-Literal.bytes in
    e ∙ sym (literal_size c.in-Literal.bytes.items)
    ∙ ap (λ (r : Re). (laid c.args.groups r).size) (sym k ∙ ap kind_meaning (sym c.in-Literal.is) ∙ c.kind.ensures.value)

pub size_of_repetition-size-body-requires : goal.size_of_repetition-size-body-requires
size_of_repetition-size-body-requires t c = (
  first_of (search (rules, TheFolds.the_lemmas, get_or_read), grind (TheFolds.the_lemmas, arith, common_steps) steps 2000000),
  (let h = on_body c.args.groups c.args.repetition.now c.deref.result.now c.in-None.is c.deref.ensures in omega (arith, h, c.requires)),
)

pub size_of_repetition-overflow_mul-result : goal.size_of_repetition-overflow_mul-result
size_of_repetition-overflow_mul-result t c =
    let h = on_size c.args.groups c.args.repetition.now c.deref.result.now c.size-body.result c.in-None.is c.if-min-eq0.false c.deref.ensures c.size-body.ensures in
    omega (arith, h, c.requires)

pub size_of_repetition-overflow_add-result-in-None : goal.size_of_repetition-overflow_add-result-in-None
size_of_repetition-overflow_add-result-in-None t c =
    let h = on_body c.args.groups c.args.repetition.now c.deref.result.now c.in-None.is c.deref.ensures in
    omega (arith, h, c.size-body.ensures, c.requires)

pub size_of_repetition-overflow_add-result-in-None-2 : goal.size_of_repetition-overflow_add-result-in-None-2
size_of_repetition-overflow_add-result-in-None-2 t c =
    let h = on_size c.args.groups c.args.repetition.now c.deref.result.now c.size-body.result c.in-None.is c.if-min-eq0.false c.deref.ensures c.size-body.ensures in
    omega (arith, h, c.requires)

pub size_of_repetition-returns-else-min-eq0 : goal.size_of_repetition-returns-else-min-eq0
size_of_repetition-returns-else-min-eq0 t c =
    on_size c.args.groups c.args.repetition.now c.deref.result.now c.size-body.result c.in-None.is c.if-min-eq0.false c.deref.ensures c.size-body.ensures

pub size_of_repetition-size-body-requires-in-Some : goal.size_of_repetition-size-body-requires-in-Some
size_of_repetition-size-body-requires-in-Some t c = (
  first_of (search (rules, TheFolds.the_lemmas, get_or_read), grind (TheFolds.the_lemmas, arith, common_steps) steps 2000000),
  (let e : c.max-copies.result ≡ max (out-Repetition c.args.repetition.now).min c.in-Some.max = c.max-copies.ensures in
      let h = to_body c.args.groups c.args.repetition.now c.deref-in-Some.result.now c.in-Some.max c.in-Some.is (λ z. c.if-copies-eq0.false (e ∙ z)) c.deref-in-Some.ensures in
      omega (arith, h, c.requires)),
)

pub size_of_repetition-overflow_mul-result-in-Some : goal.size_of_repetition-overflow_mul-result-in-Some
size_of_repetition-overflow_mul-result-in-Some t c =
    let h = to_size c.args.groups c.args.repetition.now c.deref-in-Some.result.now c.size-body-in-Some.result c.in-Some.max c.in-Some.is c.deref-in-Some.ensures c.size-body-in-Some.ensures in
    omega (arith, h, c.requires)

pub size_of_repetition-overflow_add-result-in-Some : goal.size_of_repetition-overflow_add-result-in-Some
size_of_repetition-overflow_add-result-in-Some t c =
    let e : c.max-copies.result ≡ max (out-Repetition c.args.repetition.now).min c.in-Some.max = c.max-copies.ensures in
    let h = to_body c.args.groups c.args.repetition.now c.deref-in-Some.result.now c.in-Some.max c.in-Some.is (λ z. c.if-copies-eq0.false (e ∙ z)) c.deref-in-Some.ensures in
    omega (arith, h, c.size-body-in-Some.ensures, c.requires)

pub size_of_repetition-overflow_mul-result-in-Some-2 : goal.size_of_repetition-overflow_mul-result-in-Some-2
size_of_repetition-overflow_mul-result-in-Some-2 t c =
    let h = to_size c.args.groups c.args.repetition.now c.deref-in-Some.result.now c.size-body-in-Some.result c.in-Some.max c.in-Some.is c.deref-in-Some.ensures c.size-body-in-Some.ensures in
    let e : c.saturating_sub-more.result ≡ c.in-Some.max - (out-Repetition c.args.repetition.now).min = c.saturating_sub-more.ensures in
    rw e (omega (arith, h, c.requires))

pub size_of_repetition-overflow_add-result-in-Some-2 : goal.size_of_repetition-overflow_add-result-in-Some-2
size_of_repetition-overflow_add-result-in-Some-2 t c =
    let h = to_size c.args.groups c.args.repetition.now c.deref-in-Some.result.now c.size-body-in-Some.result c.in-Some.max c.in-Some.is c.deref-in-Some.ensures c.size-body-in-Some.ensures in
    let e : c.saturating_sub-more.result ≡ c.in-Some.max - (out-Repetition c.args.repetition.now).min = c.saturating_sub-more.ensures in
    rw e (omega (arith, h, c.requires))

pub size_of_repetition-overflow_add-result-in-Some-3 : goal.size_of_repetition-overflow_add-result-in-Some-3
size_of_repetition-overflow_add-result-in-Some-3 t c =
    let h = to_size c.args.groups c.args.repetition.now c.deref-in-Some.result.now c.size-body-in-Some.result c.in-Some.max c.in-Some.is c.deref-in-Some.ensures c.size-body-in-Some.ensures in
    let e : c.saturating_sub-more.result ≡ c.in-Some.max - (out-Repetition c.args.repetition.now).min = c.saturating_sub-more.ensures in
    rw e (omega (arith, h, c.requires))

pub size_of_repetition-returns-else-copies-eq0 : goal.size_of_repetition-returns-else-copies-eq0
size_of_repetition-returns-else-copies-eq0 t c =
    let h = to_size c.args.groups c.args.repetition.now c.deref-in-Some.result.now c.size-body-in-Some.result c.in-Some.max c.in-Some.is c.deref-in-Some.ensures c.size-body-in-Some.ensures in
    let e : c.saturating_sub-more.result ≡ c.in-Some.max - (out-Repetition c.args.repetition.now).min = c.saturating_sub-more.ensures in
    rw e h

pub size_of_concat-size-total-requires : goal.size_of_concat-size-total-requires
size_of_concat-size-total-requires t c = (
  first_of (search (rules, TheFolds.the_lemmas, get_or_read), grind (TheFolds.the_lemmas, arith, common_steps) steps 2000000),
  (let h = cat_member c.args.groups c.args.subs.now (c.loop-i.i - 1) c.index-subs-i.result (omega arith) c.index-subs-i.is in omega (arith, h, c.requires)),
)

pub size_of_alternation-size-requires : goal.size_of_alternation-size-requires
size_of_alternation-size-requires t c = (
  first_of (search (rules, TheFolds.the_lemmas, get_or_read), grind (TheFolds.the_lemmas, arith, common_steps) steps 2000000),
  (let h = alt_member c.args.groups c.args.subs.now (c.loop-i.i - 1) c.index-subs-i.result (omega arith) c.index-subs-i.is in omega (arith, h, c.requires)),
)
