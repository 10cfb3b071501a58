use Rattle.std.proofs.Common.{◌∙◌, false, ap, subst, sym}
use Rattle.std.proofs.lemmas.Result.{IfOk-weaker}
use Rattle.rc_tokens.specs.ClassView.{pairs}
use Rattle.rc_tokens.specs.Classes.{AreCodes, class_of}
use Rattle.rc_tokens.proofs.ClassLemmas.{codes_append}
use Rattle.rc_class_sets.specs.Sets.{AreRangesOf, union}
use Rattle.rc_class_sets.proofs.SetLemmas.{ordered_is, union_denoted}
use Rattle.rc_class_sets.proofs.sets.union.Goals as goal

pub class_of-requires : goal.class_of-requires
class_of-requires c = subst (λ rs. AreCodes c.args.unicode rs) (sym (ap pairs c.deref.ensures.value ∙ c.in_ok-all.ensures))
    (codes_append c.args.unicode (pairs c.args.left.now) (pairs c.args.right.now) c.requires.left c.requires.right)

pub returns : goal.returns
returns c p q v w = IfOk-weaker c.class_of.result _ _
    (λ r e. subst (λ rs. AreRangesOf c.args.unicode (union p q) rs)
    (sym (e ∙ ap (class_of c.args.unicode false false) (ap pairs c.deref.ensures.value ∙ c.in_ok-all.ensures)))
    (ordered_is c.args.unicode (union p q) _ (union_denoted c.args.unicode p q _ _ v w)))
    c.class_of.ensures
