use Rattle.std.proofs.Common.{◌∙◌, true, false, ap, subst, sym}
use Rattle.std.proofs.lemmas.Result.{IfOk-weaker}
use Rattle.rc_tokens.specs.ClassView.{pairs}
use Rattle.rc_tokens.specs.Classes.{AreCodes, class_of}
use Rattle.rc_tokens.proofs.ClassLemmas.{codes_append, class_codes}
use Rattle.rc_class_sets.specs.Sets.{Denote, AreRangesOf, union, difference, complement}
use Rattle.rc_class_sets.proofs.SetLemmas.{complement_is, union_denoted, difference_is}
use Rattle.rc_class_sets.proofs.sets.difference.Goals as goal

pub class_of-requires-2 : goal.class_of-requires-2
class_of-requires-2 c =
    subst (λ rs. AreCodes c.args.unicode rs) (sym (ap pairs c.deref-2.ensures.value ∙ c.in_ok-outside.ensures))
    (codes_append c.args.unicode (pairs c.deref.result.now) (pairs c.args.right.now)
    (subst (λ rs. AreCodes c.args.unicode rs) (sym (ap pairs c.deref.ensures.value ∙ c.in_ok-outside_left.ensures))
    (class_codes c.args.unicode false true _ c.requires.left)) c.requires.right)

pub returns : goal.returns
returns c p q v w = IfOk-weaker c.class_of-2.result _ _
    (λ r e. subst (λ rs. AreRangesOf c.args.unicode (difference p q) rs)
    (sym (e ∙ ap (class_of c.args.unicode false true) (ap pairs c.deref-2.ensures.value ∙ c.in_ok-outside.ensures)))
    (difference_is c.args.unicode p q _ (complement_is c.args.unicode (union (complement p) q) _
    (union_denoted c.args.unicode (complement p) q _ _
    (subst (λ rs. Denote c.args.unicode (complement p) rs) (sym (ap pairs c.deref.ensures.value ∙ c.in_ok-outside_left.ensures))
    (complement_is c.args.unicode p _ v).denote) w))))
    c.class_of-2.ensures
