use Rattle.std.proofs.Common.{◌<◌}
use Rattle.rc_program.specs.Places.{places_of}
use Rattle.rc_pikevm.specs.Fronts.{IsFront}
use Rattle.rc_pikevm.specs.Near.{seen_from, size}
use Rattle.rc_pikevm.specs.Marking.{IsSettingOut}
use Rattle.rc_pikevm.proofs.which.enter_each.Given as goal

abbrev pub invariant-patterns : goal.invariant-patterns
invariant-patterns g l = record {
  front : IsFront (places_of l.spot.course.program.now.places.items) l.number l.place;
  inside : l.place < size l.spot.course;
  set_out : IsSettingOut (seen_from l.spot g.text) (size l.spot.course) l.spot.course.hi l.spot.at l.place l.fn.growth.threads l.fn.growth.entered l.fn.set
      l.growth.threads l.growth.entered l.set;
}

abbrev pub ghost-is_shut : goal.ghost-is_shut
ghost-is_shut g a = g.text

abbrev pub ghost-is_idle : goal.ghost-is_idle
ghost-is_idle g a = g.text

abbrev pub ghost-spread : goal.ghost-spread
ghost-spread g a = g.text
