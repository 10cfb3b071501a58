use Rattle.std.proofs.Common.{subst, sym}
use Rattle.std.proofs.lemmas.Result.{IfOk-weaker}
use Rattle.rc_tokens.specs.ClassView.{pairs}
use Rattle.rc_tokens.specs.Classes.{AreCodes}
use Rattle.rc_class_sets.specs.Sets.{Denote, difference}
use Rattle.rc_class_sets.proofs.SetLemmas.{ranges_denote, symmetric_is}
use Rattle.rc_class_sets.proofs.sets.symmetric_difference.Goals as goal

pub union-requires-clause-left : goal.union-requires-clause-left
union-requires-clause-left c = subst (λ rs. AreCodes c.args.unicode (pairs rs)) (sym c.deref.ensures.value)
    (c.in_ok-only_left.ensures _ _ (ranges_denote c.args.unicode (pairs c.args.left.now) c.requires.left)
    (ranges_denote c.args.unicode (pairs c.args.right.now) c.requires.right)).denote.codes

pub union-requires-clause-right : goal.union-requires-clause-right
union-requires-clause-right c = subst (λ rs. AreCodes c.args.unicode (pairs rs)) (sym c.deref-2.ensures.value)
    (c.in_ok-only_right.ensures _ _ (ranges_denote c.args.unicode (pairs c.args.right.now) c.requires.right)
    (ranges_denote c.args.unicode (pairs c.args.left.now) c.requires.left)).denote.codes

pub returns : goal.returns
returns c p q v w = IfOk-weaker c.union.result _ _
    (λ r is. symmetric_is c.args.unicode p q (pairs r.items) is)
    (c.union.ensures (difference p q) (difference q p)
    (subst (λ rs. Denote c.args.unicode (difference p q) (pairs rs)) (sym c.deref.ensures.value) (c.in_ok-only_left.ensures p q v w).denote)
    (subst (λ rs. Denote c.args.unicode (difference q p) (pairs rs)) (sym c.deref-2.ensures.value) (c.in_ok-only_right.ensures q p w v).denote))
