use Rattle.std.proofs.Common.{false, subst, sym}
use Rattle.std.proofs.lemmas.Result.{IfOk-weaker}
use Rattle.unicode.specs.Rows.{AreRanges, in_ranges}
use Rattle.rc_tokens.specs.ClassView.{pairs}
use Rattle.rc_tokens.specs.Classes.{set_ranges}
use Rattle.rc_tokens.proofs.ClassLemmas.{set_codes}
use Rattle.rc_class_sets.specs.Perl.{perl_set}
use Rattle.rc_class_sets.specs.Sets.{AreRangesOf}
use Rattle.rc_class_sets.proofs.SetLemmas.{ordered_is, ranges_denote}
use Rattle.rc_class_sets.proofs.ScalarLemmas.{rising_ranges}
use Rattle.rc_class_sets.proofs.perl.perl_class.Goals as goal

pub characters-requires : goal.characters-requires
characters-requires c = subst (λ rs. AreRanges rs) (sym c.deref.ensures.value) (rising_ranges 0 c.in_ok-ranges.ranges.items c.in_ok-ranges.ensures.rising)

pub returns : goal.returns
returns c = IfOk-weaker c.perl_ranges.result _ _
    (λ v e. subst (λ u. AreRangesOf u (perl_set u c.args.set) (pairs v.items)) (sym c.if-unicode.false)
    (subst (λ rs. AreRangesOf false (perl_set false c.args.set) rs) (sym e)
    (ordered_is false (in_ranges (set_ranges c.args.set)) (set_ranges c.args.set) (ranges_denote false (set_ranges c.args.set) (set_codes false c.args.set)))))
    c.perl_ranges.ensures
