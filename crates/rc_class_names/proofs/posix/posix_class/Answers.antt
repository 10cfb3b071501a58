use Rattle.std.proofs.Common.{◌∙◌, ap, subst, sym}
use Rattle.rc_tokens.specs.ClassView.{pairs}
use Rattle.rc_tokens.specs.Classes.{AreCodes}
use Rattle.rc_class_sets.specs.Sets.{Denote}
use Rattle.rc_class_sets.proofs.SetLemmas.{ranges_denote}
use Rattle.rc_class_names.specs.Posix.{posix_ranges, posix_set}
use Rattle.rc_class_names.proofs.NameLemmas.{posix_codes}
use Rattle.rc_class_names.proofs.posix.posix_class.Goals as goal

pub in_order-requires : goal.in_order-requires
in_order-requires c = subst (λ rs. AreCodes c.args.unicode rs) (sym (ap pairs c.deref.ensures.value ∙ c.in_ok-ranges.ensures ∙ c.ranges-2.ensures))
    (posix_codes c.args.unicode c.args.class)

pub returns : goal.returns
returns c = c.in_order.ensures (posix_set c.args.class)
    (subst (λ rs. Denote c.args.unicode (posix_set c.args.class) rs) (sym (ap pairs c.deref.ensures.value ∙ c.in_ok-ranges.ensures ∙ c.ranges-2.ensures))
    (ranges_denote c.args.unicode (posix_ranges c.args.class) (posix_codes c.args.unicode c.args.class)))
