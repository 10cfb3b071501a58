use Rattle.std.proofs.Common.{drop}
use Rattle.rc_pikevm.specs.Near.{seen_from, size}
use Rattle.rc_pikevm.specs.Races.{IsRunOn}
use Rattle.rc_pikevm.proofs.longest.step.Given as goal

abbrev pub invariant-threads : goal.invariant-threads
invariant-threads g l = record {
  running : IsRunOn (seen_from l.spot g.text) (size l.spot.course) l.spot.course.hi l.spot.at l.curr.items (drop l.index l.curr.items) l.fn.growth.threads
      l.fn.best l.fn.found l.growth.threads l.growth.entered l.best l.found;
}

abbrev pub ghost-spread : goal.ghost-spread
ghost-spread g a = g.text

abbrev pub ghost-way_in : goal.ghost-way_in
ghost-way_in g a = g.text
