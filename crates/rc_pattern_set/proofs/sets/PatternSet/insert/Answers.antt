use Rattle.std.proofs.Common.{◌≡◌, ℕ, ◌<◌, Bool, true, false, true≢false, List, slice_get, Some, length, get_or, arith, ⊎_elim, sym, ap, ◌∙◌, rules}
use Rattle.std.proofs.lemmas.Option.{slice_get-get_or, same_Some}
use Rattle.rc_pattern_set.proofs.SetLemmas.{fewer_members, one_more, has_set}
use Rattle.rc_pattern_set.proofs.sets.PatternSet.insert.Goals as goal
use Rattle.rc_pattern_set.proofs.sets.PatternSet.insert.Goals.{After-index_mut}

unset : (marks : List Bool) (i : ℕ) (d : Bool) → i < length marks → d ≡ get_or marks i d → d ≡ false → slice_get marks i ≡ Some false
unset marks i d h e f = slice_get-get_or marks i d h ∙ ap Some (sym e ∙ f)

pub overflow_add-self : goal.overflow_add-self
overflow_add-self c =
    let f = fewer_members 0 c.self.inside.marks.items c.as_usize-index.result
    (unset c.self.inside.marks.items c.as_usize-index.result c.index.result.now (omega (arith, ap length c.self.view_is)) c.index.ensures c.if-index.false) in
    let n = c.self.invariant.0 in omega (arith, f, n, c.self.inside.marks.small)

pub invariant_of-self : goal.invariant_of-self
invariant_of-self c = (
  let e = one_more 0 c.self.inside.marks.items c.as_usize-index.result
      (unset c.self.inside.marks.items c.as_usize-index.result c.index.result.now (omega (arith, ap length c.self.view_is)) c.index.ensures c.if-index.false) in
      let n = c.self.invariant.0 in omega (arith, e, n),
  λ p h. ⊎_elim (λ e. omega (arith, e, c.as_usize-index.ensures.small)) (λ k. c.self.invariant.1 p k)
      (has_set c.self.inside.marks.items c.as_usize-index.result p h),
)

pub returns-clause-new : goal.returns-clause-new
returns-clause-new c =
    let u = unset c.self.inside.marks.items c.as_usize-index.result c.index.result.now (omega (arith, ap length c.self.view_is)) c.index.ensures c.if-index.false in
    let inside : c.as_usize-index.result < length c.self.inside.marks.items = omega (arith, ap length c.self.view_is) in
    let e = c.as_usize-index.ensures.value in
    rw (sym e, sym c.self.view_is) (
      λ t. (inside, λ has. true≢false (same_Some true false (sym has ∙ u))),
      λ h. search rules,
    )
