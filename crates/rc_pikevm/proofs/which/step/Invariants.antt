use Rattle.std.proofs.Common.{drop}
use Rattle.rc_pikevm.specs.Near.{seen_from, size}
use Rattle.rc_pikevm.specs.Marking.{IsMarkingOn}
use Rattle.rc_pikevm.proofs.which.step.Given as goal

abbrev pub invariant-threads : goal.invariant-threads
invariant-threads g l = record {
  marking : IsMarkingOn (seen_from l.spot g.text) (size l.spot.course) l.spot.course.hi l.spot.at l.curr.items (drop l.index l.curr.items) l.fn.growth.threads l.fn.set
      l.growth.threads l.growth.entered l.set;
}

abbrev pub ghost-spread : goal.ghost-spread
ghost-spread g a = g.text
