use Rattle.std.proofs.Common.{subst, sym}
use Rattle.std.proofs.lemmas.Result.{IfOk-weaker}
use Rattle.rc_tokens.specs.ClassView.{pairs}
use Rattle.rc_class_sets.specs.Sets.{AreRangesOf}
use Rattle.rc_class_sets.proofs.SetLemmas.{ordered_is}
use Rattle.rc_class_sets.proofs.sets.in_order.Goals as goal

pub returns : goal.returns
returns c p d = IfOk-weaker c.class_of.result _ _
    (λ v e. subst (λ rs. AreRangesOf c.args.unicode p rs) (sym e) (ordered_is c.args.unicode p (pairs c.args.ranges.now) d))
    c.class_of.ensures
