use Rattle.std.proofs.Common.{rules, ◌++◌, vec_len, ◌≡◌, ◌+◌, ◌-◌, List, sym, ap, refl, ◌∙◌, arith, max, subst}
use Rattle.std.proofs.lemmas.Grind.{common_steps}
use Rattle.std.proofs.lemmas.List.{get_or_read}
use Rattle.rc_pattern.specs.Re.{Re, literal}
use Rattle.rc_pattern.specs.Meaning.{meaning, kind_meaning, repetition_meaning}
use Rattle.rc_pattern.specs.declared.hir.Hir.{Hir}
use Rattle.rc_pattern.specs.declared.hir.HirKind.TheFolds
use Rattle.rc_pattern.specs.declared.hir.Repetition.{out-Repetition}
use Rattle.rc_pattern.proofs.FoldLemmas.{kind_Literal}
use Rattle.rc_program.specs.Program.{Place, Part, up_to, plus, copies, body_or_out}
use Rattle.rc_program.specs.Places.{places_of}
use Rattle.rc_compile.specs.Shown.{laid}
use Rattle.rc_compile.proofs.SizeLemmas.{literal_size, on_part, to_part, on_body, to_body}
use Rattle.rc_program.proofs.ResultLemmas.{IfOk_to}
use Rattle.rc_compile.proofs.EmitLemmas.{Emits, emits_copy, copy_fits, literal_slots, emits_more, more_fits, emits_trans, begins_none, begins_some, ends_plus}
use Rattle.rc_compile.proofs.compile.emit.+emit.Goals.{emit_repetition-then-min-eq0+in_ok-append_choice-in-None, emit_repetition-else-min-eq0}
use Rattle.rc_compile.proofs.compile.emit.+emit.Goals as goal

pub emit-emit_literal-requires : goal.emit-emit_literal-requires
emit-emit_literal-requires t c =
    let is : literal c.in-Literal.bytes.items ≡ meaning c.args.hir.now = sym (kind_Literal c.in-Literal.bytes) ∙ ap kind_meaning (sym c.in-Literal.is) ∙ c.kind.ensures.value in
    let size : (laid c.args.groups (literal c.in-Literal.bytes.items)).size ≡ (laid c.args.groups (meaning c.args.hir.now)).size =
    ap (λ (r : Re). (laid c.args.groups r).size) is in
    let long = literal_size c.in-Literal.bytes.items in
    omega (arith, size, long, c.requires.fits, c.in-Literal.bytes.ok.0)

pub emit-returns-in-Literal-clause-more : goal.emit-returns-in-Literal-clause-more
emit-returns-in-Literal-clause-more t c =
    let is : literal c.in-Literal.bytes.items ≡ meaning c.args.hir.now = sym (kind_Literal c.in-Literal.bytes) ∙ ap kind_meaning (sym c.in-Literal.is) ∙ c.kind.ensures.value in
    IfOk_to c.emit_literal.result _ _ c.emit_literal.ensures.more
    (λ h. h ∙ ap (λ (qs : List Place). places_of c.args.places.now.items ++ qs)
    (literal_slots c.in-Literal.bytes.items c.args.slots (vec_len c.args.places.now) c.args.next
    ∙ ap (λ (r : Re). (laid c.args.groups r).places c.args.slots (vec_len c.args.places.now) c.args.next) is))

pub emit_repetition-size-length-requires : goal.emit_repetition-size-length-requires
emit_repetition-size-length-requires t c =
    let h = on_body c.args.groups c.args.repetition.now c.deref.result.now c.in-None.is c.deref.ensures in omega (arith, h, c.requires.fits)

pub emit_repetition-first-preserved : goal.emit_repetition-first-preserved
emit_repetition-first-preserved t c =
    let o = out-Repetition c.args.repetition.now in
    let a = laid c.args.groups (meaning o.sub.value) in
    emits_copy c.args.slots c.args.next c.if-min-eq0.places _ c.first.places c.emit.new.places a
    (laid c.args.groups (meaning c.deref.result.now)) (laid c.args.groups (meaning c.deref-in-first.result.now))
    (plus o.greedy a) (o.min - c.first.k) (o.min - (c.first.k + 1)) (c.len.result + c.size-length.result)
    c.first.invariant (omega (arith, c.first-test.true))
    (ap (λ (h : Hir). laid c.args.groups (meaning h)) c.deref.ensures) (ap (λ (h : Hir). laid c.args.groups (meaning h)) c.deref-in-first.ensures)
    (omega (arith, c.len.ensures, c.size-length.ensures)) c.in_ok-emit-in-None.ensures.long c.in_ok-emit-in-None.ensures.more

pub emit_repetition-returns-in_ok-emit-in-None-2-clause-more : goal.emit_repetition-returns-in_ok-emit-in-None-2-clause-more
emit_repetition-returns-in_ok-emit-in-None-2-clause-more t c =
    let o = out-Repetition c.args.repetition.now in
    let a : Part = laid c.args.groups (meaning o.sub.value) in
    let all : Part = laid c.args.groups (repetition_meaning c.args.repetition.now) in
    let is = on_part c.args.groups c.args.repetition.now c.in-None.is in
    let begun : Emits c.args.slots c.args.next c.args.places.now all c.if-min-eq0.places (copies (o.min - 1) a (plus o.greedy a)) =
    elim c.if-min-eq0.branch as (λ _. Emits c.args.slots c.args.next c.args.places.now all c.if-min-eq0.places (copies (o.min - 1) a (plus o.greedy a))) [
      | emit_repetition-then-min-eq0+in_ok-append_choice-in-None w ↦
          subst (λ ps. Emits c.args.slots c.args.next c.args.places.now all ps (copies (o.min - 1) a (plus o.greedy a))) (sym w.places-is)
          (begins_none c.args.slots c.args.next c.args.places.now w.append_choice.new.places all a o.greedy o.min _ _
          is w.if-min-eq0.true (omega (arith, w.len-body.ensures)) refl
          w.in_ok-append_choice-in-None.ensures.long w.in_ok-append_choice-in-None.ensures.more)
      | emit_repetition-else-min-eq0 w ↦
          subst (λ ps. Emits c.args.slots c.args.next c.args.places.now all ps (copies (o.min - 1) a (plus o.greedy a))) (sym w.places-is)
          (begins_some c.args.slots c.args.next c.args.places.now all a o.greedy o.min is w.if-min-eq0.false)
    ] in
    let done = emits_trans c.args.slots c.args.next c.args.places.now all c.if-min-eq0.places (copies (o.min - 1) a (plus o.greedy a))
    c.first.places (copies (o.min - c.first.k) a (plus o.greedy a)) begun c.first.invariant in
    IfOk_to c.append_choice-in-None.result _ _ c.append_choice-in-None.ensures.more
    (λ h. h ∙ ends_plus c.args.slots c.args.next c.args.places.now all c.first.places a
    (laid c.args.groups (meaning c.deref.result.now)) (laid c.args.groups (meaning c.deref-in-None.result.now))
    o.greedy (o.min - c.first.k) c.len-body-in-None.result (c.len-body-in-None.result + c.size-length.result)
    (places_of c.emit-in-None.new.places.items) _ done (omega (arith, c.first-test.false, c.first.auto.k-end))
    (ap (λ (h : Hir). laid c.args.groups (meaning h)) c.deref.ensures) (ap (λ (h : Hir). laid c.args.groups (meaning h)) c.deref-in-None.ensures)
    c.len-body-in-None.ensures (omega (arith, c.size-length.ensures)) refl c.in_ok-emit-in-None-2.ensures.more)

pub emit_repetition-size-length-requires-in-Some : goal.emit_repetition-size-length-requires-in-Some
emit_repetition-size-length-requires-in-Some t c =
    let e : c.max.result ≡ max (out-Repetition c.args.repetition.now).min c.in-Some.max = c.max.ensures in
    let h = to_body c.args.groups c.args.repetition.now c.deref-in-Some.result.now c.in-Some.max c.in-Some.is (λ z. c.if-max-eq0.false (e ∙ z)) c.deref-in-Some.ensures in
    omega (arith, h, c.requires.fits)

pub emit_repetition-overflow_add-after-in-copies : goal.emit_repetition-overflow_add-after-in-copies
emit_repetition-overflow_add-after-in-copies t c =
    let o = out-Repetition c.args.repetition.now in
    let a : Part = laid c.args.groups (meaning o.sub.value) in
    let h = copy_fits (o.min - c.copies.k) a (laid c.args.groups (meaning c.deref-in-Some.result.now)) (up_to o.greedy (c.in-Some.max - o.min) a) _ _
    (omega (arith, c.copies-test.true)) (ap (λ (h : Hir). laid c.args.groups (meaning h)) c.deref-in-Some.ensures) c.copies.invariant.long in
    let is : (laid c.args.groups (repetition_meaning c.args.repetition.now)).size ≡ (copies o.min a (up_to o.greedy (c.in-Some.max - o.min) a)).size =
    ap (λ (q : Part). q.size) (to_part c.args.groups c.args.repetition.now c.in-Some.max c.in-Some.is) in
    omega (arith, h, is, c.requires.fits, c.len-in-copies.ensures, c.size-length-in-Some.ensures)

pub emit_repetition-copies-preserved : goal.emit_repetition-copies-preserved
emit_repetition-copies-preserved t c =
    let o = out-Repetition c.args.repetition.now in
    let a : Part = laid c.args.groups (meaning o.sub.value) in
    emits_copy c.args.slots c.args.next c.args.places.now _ c.copies.places c.emit-in-copies.new.places a
    (laid c.args.groups (meaning c.deref-in-Some.result.now)) (laid c.args.groups (meaning c.deref-in-copies.result.now))
    (up_to o.greedy (c.in-Some.max - o.min) a) (o.min - c.copies.k) (o.min - (c.copies.k + 1)) (c.len-in-copies.result + c.size-length-in-Some.result)
    c.copies.invariant (omega (arith, c.copies-test.true))
    (ap (λ (h : Hir). laid c.args.groups (meaning h)) c.deref-in-Some.ensures) (ap (λ (h : Hir). laid c.args.groups (meaning h)) c.deref-in-copies.ensures)
    (omega (arith, c.len-in-copies.ensures, c.size-length-in-Some.ensures)) c.in_ok-emit-in-Some.ensures.long c.in_ok-emit-in-Some.ensures.more

pub emit_repetition-overflow_add-body-in-more-2 : goal.emit_repetition-overflow_add-body-in-more-2
emit_repetition-overflow_add-body-in-more-2 t c =
    let o = out-Repetition c.args.repetition.now in
    let a : Part = laid c.args.groups (meaning o.sub.value) in
    let h = more_fits o.greedy (c.in-Some.max - c.more.k) (c.in-Some.max - o.min) (o.min - c.copies.k) a (laid c.args.groups (meaning c.deref-in-Some.result.now)) _ _ _
    (omega (arith, c.more-test.true)) (ap (λ (h : Hir). laid c.args.groups (meaning h)) c.deref-in-Some.ensures) c.copies.invariant.long c.more.invariant.long in
    let is : (laid c.args.groups (repetition_meaning c.args.repetition.now)).size ≡ (copies o.min a (up_to o.greedy (c.in-Some.max - o.min) a)).size =
    ap (λ (q : Part). q.size) (to_part c.args.groups c.args.repetition.now c.in-Some.max c.in-Some.is) in
    omega (arith, h, is, c.requires.fits, c.len-body-in-more.ensures, c.size-length-in-Some.ensures)

pub emit_repetition-emit-requires-in-more : goal.emit_repetition-emit-requires-in-more
emit_repetition-emit-requires-in-more t c =
    let o = out-Repetition c.args.repetition.now in
    let a : Part = laid c.args.groups (meaning o.sub.value) in
    let h = more_fits o.greedy (c.in-Some.max - c.more.k) (c.in-Some.max - o.min) (o.min - c.copies.k) a (laid c.args.groups (meaning c.deref-in-more.result.now)) _ _ _
    (omega (arith, c.more-test.true)) (ap (λ (h : Hir). laid c.args.groups (meaning h)) c.deref-in-more.ensures) c.copies.invariant.long c.more.invariant.long in
    let is : (laid c.args.groups (repetition_meaning c.args.repetition.now)).size ≡ (copies o.min a (up_to o.greedy (c.in-Some.max - o.min) a)).size =
    ap (λ (q : Part). q.size) (to_part c.args.groups c.args.repetition.now c.in-Some.max c.in-Some.is) in (
      first_of (search (rules, TheFolds.the_lemmas, get_or_read), grind (TheFolds.the_lemmas, arith, common_steps) steps 2000000),
      (omega (arith, h, is, c.requires.fits, c.in_ok-append_choice-in-Some.ensures.long), c.requires.slots_fit),
    )

pub emit_repetition-more-preserved : goal.emit_repetition-more-preserved
emit_repetition-more-preserved t c =
    let o = out-Repetition c.args.repetition.now in
    let a : Part = laid c.args.groups (meaning o.sub.value) in
    emits_more c.args.slots c.args.next c.copies.places _ c.more.places c.append_choice-in-more.new.places c.emit-in-more.new.places a
    (laid c.args.groups (meaning c.deref-in-Some.result.now)) (laid c.args.groups (meaning c.deref-in-more.result.now))
    o.greedy (c.in-Some.max - c.more.k) (c.in-Some.max - (c.more.k + 1))
    (c.len-body-in-more.result + 1 + c.size-length-in-Some.result) _
    c.more.invariant (omega (arith, c.more-test.true))
    (ap (λ (h : Hir). laid c.args.groups (meaning h)) c.deref-in-Some.ensures) (ap (λ (h : Hir). laid c.args.groups (meaning h)) c.deref-in-more.ensures)
    (omega (arith, c.len-body-in-more.ensures, c.size-length-in-Some.ensures))
    (ap (λ k. body_or_out o.greedy (k + 1) c.args.next) c.len-body-in-more.ensures)
    c.in_ok-append_choice-in-Some.ensures.long c.in_ok-append_choice-in-Some.ensures.more c.in_ok-emit-in-Some-2.ensures.long c.in_ok-emit-in-Some-2.ensures.more
