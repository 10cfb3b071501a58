use Rattle.std.proofs.Common.{subst, sym}
use Rattle.std.proofs.lemmas.Result.{IfOk-weaker}
use Rattle.rc_tokens.specs.ClassView.{pairs}
use Rattle.rc_tokens.specs.Classes.{AreCodes}
use Rattle.rc_class_sets.specs.Sets.{Denote, AreRangesOf}
use Rattle.rc_class_sets.specs.Folding.{folded_if, complement_if}
use Rattle.rc_class_sets.proofs.SetLemmas.{ranges_denote}
use Rattle.rc_class_sets.proofs.folding.item.Goals as goal

pub complement-requires : goal.complement-requires
complement-requires c =
    subst (λ rs. AreCodes c.args.unicode (pairs rs)) (sym c.deref.ensures.value)
    (c.in_ok-all.ensures _ (ranges_denote c.args.unicode (pairs c.args.ranges.now) c.requires)).denote.codes

pub returns-then-negated : goal.returns-then-negated
returns-then-negated c p d =
    IfOk-weaker c.complement.result _ _
    (λ v is. subst (λ negated. AreRangesOf c.args.unicode (complement_if negated (folded_if c.args.fold c.args.unicode p)) (pairs v.items)) (sym c.if-negated.true) is)
    (c.complement.ensures (folded_if c.args.fold c.args.unicode p)
    (subst (λ rs. Denote c.args.unicode (folded_if c.args.fold c.args.unicode p) (pairs rs)) (sym c.deref.ensures.value) (c.in_ok-all.ensures p d).denote))

pub returns : goal.returns
returns c p d =
    subst (λ negated. AreRangesOf c.args.unicode (complement_if negated (folded_if c.args.fold c.args.unicode p)) (pairs c.in_ok-all.all.items)) (sym c.if-negated.false) (c.in_ok-all.ensures p d)
