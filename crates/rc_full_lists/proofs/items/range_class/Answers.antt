use Rattle.std.proofs.Common.{[], ◌∷◌}
use Rattle.unicode.specs.Rows.{in_ranges}
use Rattle.rc_tokens.specs.ClassView.{pair}
use Rattle.rc_class_sets.proofs.SetLemmas.{ranges_denote}
use Rattle.rc_full_lists.proofs.items.range_class.Goals as goal

pub returns : goal.returns
returns c = c.in_order.ensures (in_ranges (pair c.args.range ∷ [])) (ranges_denote c.args.unicode (pair c.args.range ∷ []) c.requires)
