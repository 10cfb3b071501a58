use Rattle.std.proofs.Common.{◌∙◌, true, false, ap, subst, sym}
use Rattle.std.proofs.lemmas.Result.{IfOk-weaker}
use Rattle.rc_tokens.specs.ClassView.{pairs}
use Rattle.rc_tokens.specs.Classes.{AreCodes, class_of}
use Rattle.rc_tokens.proofs.ClassLemmas.{codes_append, class_codes}
use Rattle.rc_class_sets.specs.Sets.{Denote, AreRangesOf, union, intersection, complement}
use Rattle.rc_class_sets.proofs.SetLemmas.{complement_is, union_denoted, intersection_is}
use Rattle.rc_class_sets.proofs.sets.intersection.Goals as goal

pub class_of-requires-3 : goal.class_of-requires-3
class_of-requires-3 c =
    subst (λ rs. AreCodes c.args.unicode rs) (sym (ap pairs c.deref-3.ensures.value ∙ c.in_ok-outside.ensures))
    (codes_append c.args.unicode (pairs c.deref.result.now) (pairs c.deref-2.result.now)
    (subst (λ rs. AreCodes c.args.unicode rs) (sym (ap pairs c.deref.ensures.value ∙ c.in_ok-outside_left.ensures))
    (class_codes c.args.unicode false true _ c.requires.left))
    (subst (λ rs. AreCodes c.args.unicode rs) (sym (ap pairs c.deref-2.ensures.value ∙ c.in_ok-outside_right.ensures))
    (class_codes c.args.unicode false true _ c.requires.right)))

pub returns : goal.returns
returns c p q v w = IfOk-weaker c.class_of-3.result _ _
    (λ r e. subst (λ rs. AreRangesOf c.args.unicode (intersection p q) rs)
    (sym (e ∙ ap (class_of c.args.unicode false true) (ap pairs c.deref-3.ensures.value ∙ c.in_ok-outside.ensures)))
    (intersection_is c.args.unicode p q _ (complement_is c.args.unicode (union (complement p) (complement q)) _
    (union_denoted c.args.unicode (complement p) (complement q) _ _
    (subst (λ rs. Denote c.args.unicode (complement p) rs) (sym (ap pairs c.deref.ensures.value ∙ c.in_ok-outside_left.ensures))
    (complement_is c.args.unicode p _ v).denote)
    (subst (λ rs. Denote c.args.unicode (complement q) rs) (sym (ap pairs c.deref-2.ensures.value ∙ c.in_ok-outside_right.ensures))
    (complement_is c.args.unicode q _ w).denote)))))
    c.class_of-3.ensures
