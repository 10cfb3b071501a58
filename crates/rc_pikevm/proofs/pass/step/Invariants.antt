use Rattle.std.proofs.Common.{drop}
use Rattle.rc_pikevm.specs.Near.{seen_from, size}
use Rattle.rc_pikevm.specs.Steps.{IsStepping}
use Rattle.rc_pikevm.proofs.pass.step.Given as goal

abbrev pub invariant-threads : goal.invariant-threads
invariant-threads g l = record {
  stepping : IsStepping (seen_from l.spot g.text) (size l.spot.course) l.spot.course.hi l.spot.at l.curr.items (drop l.index l.curr.items) l.fn.growth.threads l.growth.threads l.growth.entered;
}

abbrev pub ghost-close : goal.ghost-close
ghost-close g a = g.text

abbrev pub ghost-way_in : goal.ghost-way_in
ghost-way_in g a = g.text
