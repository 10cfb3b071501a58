use Rattle.std.proofs.Common.{ap, subst, sym, ◌∙◌}
use Rattle.std.proofs.lemmas.List.{map-append}
use Rattle.rc_tokens.specs.ClassView.{pair, pairs}
use Rattle.rc_class_sets.specs.Sets.{Denote, union}
use Rattle.rc_class_sets.proofs.SetLemmas.{union_denoted}
use Rattle.rc_full_lists.proofs.sides.Sides.with_class.Goals as goal

pub returns : goal.returns
returns c unicode s p are is = record {
  left = are.left;
  items = subst (λ rs. Denote unicode (union s.items p) rs)
      (sym (ap pairs c.in_ok-extend_from_slice.ensures.items ∙ map-append pair c.args.self.items.items c.args.class.now))
      (union_denoted unicode s.items p _ _ are.items is.denote);
}
