use Rattle.std.proofs.Common.{length, ◌-◌}
use Rattle.rc_utf8.specs.Places.{places_of}
use Rattle.rc_determinize.specs.Sides.{holds_by}
use Rattle.rc_determinize.specs.Steps.{out_by}
use Rattle.rc_determinize.specs.States.{is_match}
use Rattle.rc_determinize.proofs.PartedLemmas.{IsParting}
use Rattle.rc_determinize.proofs.longest.close_groups.Given as goal

abbrev pub invariant-groups : goal.invariant-groups
invariant-groups l =
    IsParting (out_by (places_of l.places) (holds_by l.behind l.ahead) l.after) (is_match (places_of l.places)) (length l.places) l.list l.entered l.listed l.to.items l.from

abbrev pub decreases-groups : goal.decreases-groups
decreases-groups l = length l.list - l.from
