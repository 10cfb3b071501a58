use Rattle.std.proofs.Common.{subst, sym}
use Rattle.std.proofs.lemmas.Result.{IfOk-weaker}
use Rattle.rc_tokens.specs.ClassView.{pairs}
use Rattle.rc_class_sets.specs.Sets.{Denote, AreRangesOf}
use Rattle.rc_full_lists.specs.Sides.{IsLeft}
use Rattle.rc_full_lists.proofs.SideLemmas.{far_left, far_none}
use Rattle.rc_full_lists.proofs.sides.Sides.so_far.Goals as goal

pub apply-requires-clause-right : goal.apply-requires-clause-right
apply-requires-clause-right c =
    let (s, are) = c.requires in (
      s.items,
      subst (λ rs. AreRangesOf c.args.unicode s.items (pairs rs)) (sym c.deref-in-Some-2.ensures.value)
          (c.in_ok-items.ensures s.items (subst (λ rs. Denote c.args.unicode s.items (pairs rs)) (sym c.deref.ensures.value) are.items)),
    )

pub returns-in-Some : goal.returns-in-Some
returns-in-Some c s are =
    let (a, left, far) = far_left c.args.unicode c.in-Some.left s.left s.items (subst (λ l. IsLeft c.args.unicode l s.left) c.in-Some.is are.left) in
    IfOk-weaker c.apply.result _ _ (λ r e. far _ e)
    (c.apply.ensures a s.items (subst (λ rs. AreRangesOf c.args.unicode a (pairs rs)) (sym c.deref-in-Some.ensures.value) left)
    (subst (λ rs. AreRangesOf c.args.unicode s.items (pairs rs)) (sym c.deref-in-Some-2.ensures.value)
    (c.in_ok-items.ensures s.items (subst (λ rs. Denote c.args.unicode s.items (pairs rs)) (sym c.deref.ensures.value) are.items))))

pub returns : goal.returns
returns c s are =
    far_none c.args.unicode s.left s.items (pairs c.in_ok-items.items.items) (subst (λ l. IsLeft c.args.unicode l s.left) c.in-None.is are.left)
    (c.in_ok-items.ensures s.items (subst (λ rs. Denote c.args.unicode s.items (pairs rs)) (sym c.deref.ensures.value) are.items))
