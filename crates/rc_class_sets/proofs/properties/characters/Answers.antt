use Rattle.std.proofs.Common.{◌∙◌, true, false, ap, subst, sym}
use Rattle.std.proofs.lemmas.Result.{IfOk-weaker}
use Rattle.rc_tokens.specs.ClassView.{pairs}
use Rattle.rc_tokens.specs.Classes.{AreCodes, class_of}
use Rattle.rc_class_sets.specs.Sets.{AreRangesOf}
use Rattle.rc_class_sets.specs.Scalars.{cut}
use Rattle.rc_class_sets.proofs.SetLemmas.{ordered_is}
use Rattle.rc_class_sets.proofs.ScalarLemmas.{cut_denotes, members_denote}
use Rattle.rc_class_sets.proofs.properties.characters.Goals as goal

pub class_of-requires : goal.class_of-requires
class_of-requires c = subst (λ rs. AreCodes true rs) (sym (ap pairs c.deref.ensures.value ∙ c.in_ok-all.ensures))
    (cut_denotes c.args.ranges.now c.requires).codes

pub returns : goal.returns
returns c p exact = IfOk-weaker c.class_of.result _ _
    (λ v e. subst (λ rs. AreRangesOf true p rs)
    (sym (e ∙ ap (class_of true false false) (ap pairs c.deref.ensures.value ∙ c.in_ok-all.ensures)))
    (ordered_is true p (cut c.args.ranges.now) (members_denote p c.args.ranges.now c.requires exact)))
    c.class_of.ensures
