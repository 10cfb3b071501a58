use Rattle.std.proofs.Common.{◌<◌}
use Rattle.rc_pikevm.specs.Near.{seen_from, size}
use Rattle.rc_pikevm.specs.Alone.{IsDead, tried_at}
use Rattle.rc_pikevm.proofs.AloneLemmas.{AreIn, Dies}
use Rattle.rc_pikevm.proofs.alone.leads_nowhere.Given as goal

abbrev pub invariant-ways : goal.invariant-ways
invariant-ways g l = record {
  place_in : l.place < size l.spot.course;
  later_in : AreIn (size l.spot.course) l.later;
  dead : IsDead (seen_from l.spot g.text) (tried_at l.spot.at l.tried) (l.place, l.spot.at)
      → Dies (seen_from l.spot g.text) l.spot.at (tried_at l.spot.at l.tried) l.later
      → IsDead (seen_from l.spot g.text) (tried_at l.spot.at l.tried) (l.from, l.spot.at);
}

abbrev pub ghost-look_up : goal.ghost-look_up
ghost-look_up g a = g.text
