use Rattle.std.proofs.Common.{subst, sym}
use Rattle.std.proofs.lemmas.Result.{IfOk-weaker}
use Rattle.rc_tokens.specs.ClassView.{pairs}
use Rattle.rc_class_sets.specs.Sets.{AreRangesOf}
use Rattle.rc_class_sets.specs.Folding.{folded_if}
use Rattle.rc_class_sets.proofs.folding.folded_if.Goals as goal

pub returns-then-fold : goal.returns-then-fold
returns-then-fold c p d =
    IfOk-weaker c.folded.result _ _ (λ v is. subst (λ fold. AreRangesOf c.args.unicode (folded_if fold c.args.unicode p) (pairs v.items)) (sym c.if-fold.true) is)
    (c.folded.ensures p d)

pub returns : goal.returns
returns c p d =
    IfOk-weaker c.in_order.result _ _ (λ v is. subst (λ fold. AreRangesOf c.args.unicode (folded_if fold c.args.unicode p) (pairs v.items)) (sym c.if-fold.false) is)
    (c.in_order.ensures p d)
