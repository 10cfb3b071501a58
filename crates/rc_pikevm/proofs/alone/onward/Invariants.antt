use Rattle.std.proofs.Common.{◌<◌, []}
use Rattle.rc_pikevm.specs.Near.{seen_from, size}
use Rattle.rc_pikevm.specs.Alone.{IsDead, LeadsTo}
use Rattle.rc_pikevm.proofs.alone.onward.Given as goal

abbrev pub invariant-ways : goal.invariant-ways
invariant-ways g l = record {
  place_in : l.place < size l.spot.course;
  leads : LeadsTo (seen_from l.spot g.text) l.spot.at l.from l.place;
  none : IsDead (seen_from l.spot g.text) [] (l.place, l.spot.at) → IsDead (seen_from l.spot g.text) [] (l.from, l.spot.at);
}

abbrev pub ghost-look_up : goal.ghost-look_up
ghost-look_up g a = g.text

abbrev pub ghost-only_way : goal.ghost-only_way
ghost-only_way g a = g.text
