use Rattle.std.proofs.Common.{◌≡◌, inl, inr, ⊎_elim, Some, None, true, nat_lt, sym, subst, ap, ◌∙◌}
use Rattle.std.proofs.lemmas.Bool.{ltb-true}
use Rattle.rc_parser.specs.Pieces.{depth_limit}
use Rattle.rc_parser.specs.Nesting.{least_depth}
use Rattle.rc_full_lists.proofs.RefusalLemmas.{err_is}
use Rattle.rc_full_parser.specs.Marked.{read_mark}
use Rattle.rc_full_parser.specs.Pieces.{HasCodesAt}
use Rattle.rc_full_parser.specs.View.{mark_of, settings_at, state_of}
use Rattle.rc_full_parser.proofs.AtomLemmas.{read_codes}
use Rattle.rc_full_parser.proofs.ReadLemmas.{no_mark, is_front, no_move, too_deep, is_step}
use Rattle.rc_full_parser.proofs.reader.Reader.step.Goals as goal

pub returns-in_err-mark-clause-value : goal.returns-in_err-mark-clause-value
returns-in_err-mark-clause-value c =
    let s = settings_at c.args.self.now in
    let m = state_of c.args.self.now in
    let text = c.args.text.now in
    err_is c.from_residual.result c.in_err-mark.field-0.0 _ _ c.from_residual.ensures.1
    (⊎_elim (λ memory. inl memory)
    (λ none. inr (no_mark s m text c.requires.front c.requires.more (subst (λ x. read_mark x text ≡ None) c.mark_settings.ensures none))) c.in_err-mark.ensures)

pub accept-requires-clause-codes : goal.accept-requires-clause-codes
accept-requires-clause-codes c =
    subst (λ x. HasCodesAt x.unicode (mark_of c.in_ok-mark.mark)) c.mark_settings.ensures
    (read_codes c.mark_settings.result c.args.text.now (mark_of c.in_ok-mark.mark) c.in_ok-mark.behind.now c.in_ok-mark.ensures)

pub returns-in_err-rest-clause-value : goal.returns-in_err-rest-clause-value
returns-in_err-rest-clause-value c =
    let s = settings_at c.args.self.now in
    let m = state_of c.args.self.now in
    let text = c.args.text.now in
    let k = mark_of c.in_ok-mark.mark in
    let front = is_front s m text c.in_ok-mark.behind.now k c.requires.front
    (subst (λ x. read_mark x text ≡ Some (k, c.in_ok-mark.behind.now)) c.mark_settings.ensures c.in_ok-mark.ensures) in
    err_is c.from_residual-in_err-rest.result c.in_err-rest.field-0.0 _ _ c.from_residual-in_err-rest.ensures.1
    (⊎_elim (λ memory. inl memory) (λ never. inr (no_move s m text c.in_ok-mark.behind.now k front never)) c.in_err-rest.ensures.value)

pub returns-then-is_too_deep-clause-value : goal.returns-then-is_too_deep-clause-value
returns-then-is_too_deep-clause-value c =
    let s = settings_at c.args.self.now in
    let m = state_of c.args.self.now in
    let n = state_of c.accept.new.self in
    let text = c.args.text.now in
    let k = mark_of c.in_ok-mark.mark in
    let front = is_front s m text c.in_ok-mark.behind.now k c.requires.front
    (subst (λ x. read_mark x text ≡ Some (k, c.in_ok-mark.behind.now)) c.mark_settings.ensures c.in_ok-mark.ensures) in
    let deep : nat_lt (depth_limit s) (least_depth n.work) ≡ true =
    ap (λ x. nat_lt (depth_limit x) (least_depth n.work)) (sym c.in_ok-rest.ensures.settings) ∙ sym c.is_too_deep.ensures ∙ c.if-is_too_deep.true in
    inr (too_deep s m n text c.in_ok-mark.behind.now c.in_ok-rest.rest.now k front c.in_ok-rest.ensures.value (ltb-true (depth_limit s) (least_depth n.work) deep))

pub returns-clause-value : goal.returns-clause-value
returns-clause-value c =
    let s = settings_at c.args.self.now in
    let m = state_of c.args.self.now in
    let n = state_of c.accept.new.self in
    let text = c.args.text.now in
    let k = mark_of c.in_ok-mark.mark in
    let front = is_front s m text c.in_ok-mark.behind.now k c.requires.front
    (subst (λ x. read_mark x text ≡ Some (k, c.in_ok-mark.behind.now)) c.mark_settings.ensures c.in_ok-mark.ensures) in
    is_step s m n text c.in_ok-mark.behind.now c.in_ok-rest.rest.now c.passed.result.now k front c.in_ok-rest.ensures.value c.passed.ensures
