use Rattle.std.proofs.Common.{◌∙◌, true, false, ap, subst, sym}
use Rattle.std.proofs.lemmas.Result.{IfOk-weaker}
use Rattle.rc_tokens.specs.ClassView.{pairs}
use Rattle.rc_tokens.specs.Classes.{AreCodes, class_of}
use Rattle.rc_class_sets.specs.Sets.{Denote, AreRangesOf}
use Rattle.rc_class_sets.specs.Folding.{folded}
use Rattle.rc_class_sets.proofs.SetLemmas.{ordered_is}
use Rattle.rc_class_sets.proofs.FoldLemmas.{bytes_folded}
use Rattle.rc_class_sets.proofs.OthersLemmas.{with_others_codes, others_denote}
use Rattle.rc_class_sets.proofs.folding.folded.Goals as goal

pub class_of-requires : goal.class_of-requires
class_of-requires c = subst (λ rs. AreCodes true rs) (sym (ap pairs c.deref.ensures.value ∙ c.in_ok-all.ensures))
    (with_others_codes (pairs c.args.ranges.now) (subst (λ u. AreCodes u (pairs c.args.ranges.now)) c.if-unicode.true c.requires))

pub returns-then-unicode : goal.returns-then-unicode
returns-then-unicode c p d = IfOk-weaker c.class_of.result _ _
    (λ v e. subst (λ u. AreRangesOf u (folded u p) (pairs v.items)) (sym c.if-unicode.true) (subst (λ rs. AreRangesOf true (folded true p) rs)
    (sym (e ∙ ap (class_of true false false) (ap pairs c.deref.ensures.value ∙ c.in_ok-all.ensures)))
    (ordered_is true (folded true p) _ (others_denote p (pairs c.args.ranges.now) (subst (λ u. Denote u p (pairs c.args.ranges.now)) c.if-unicode.true d)))))
    c.class_of.ensures

pub returns : goal.returns
returns c p d = IfOk-weaker c.class_of-2.result _ _
    (λ v e. subst (λ u. AreRangesOf u (folded u p) (pairs v.items)) (sym c.if-unicode.false) (subst (λ rs. AreRangesOf false (folded false p) rs) (sym e)
    (bytes_folded p (pairs c.args.ranges.now) (subst (λ u. Denote u p (pairs c.args.ranges.now)) c.if-unicode.false d))))
    c.class_of-2.ensures
