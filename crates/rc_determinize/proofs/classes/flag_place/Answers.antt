use Rattle.std.proofs.Common.{◌||◌, ◌∙◌, ap, false, slice_index_or, sym}
use Rattle.std.specs.List.{list_any}
use Rattle.rc_utf8.specs.Places.{place_of}
use Rattle.rc_determinize.specs.Sides.{ranges_of}
use Rattle.rc_determinize.specs.Classes.{parts}
use Rattle.rc_determinize.proofs.ClassLemmas.{same_ranges}
use Rattle.rc_determinize.proofs.classes.flag_place.Goals as goal

pub returns-in-Branch : goal.returns-in-Branch
returns-in-Branch c = λ b small.
    c.flag_ways.ensures b small
    ∙ ap (λ x. slice_index_or c.args.borders.now b false || x)
    (ap (list_any (parts b)) (same_ranges c.in-Branch.ways.items) ∙ ap (λ p. list_any (parts b) (ranges_of (place_of p))) (sym c.in-Branch.is))
