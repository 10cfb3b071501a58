use Rattle.rc_pikevm.specs.Fronts.{front_first, front_next}
use Rattle.rc_pikevm.specs.Near.{seen_from}
use Rattle.rc_pikevm.proofs.FrontLemmas.{none_set_out, way_left_out, way_set_out}
use Rattle.rc_pikevm.proofs.which.enter_each.Goals as goal
use Rattle.rc_pikevm.proofs.which.enter_each.Goals.{else-not-is_idle, then-not-is_idle}

pub patterns-init : goal.patterns-init
patterns-init g c = record {
  front = front_first;
  inside = c.requires.1.0;
  set_out = none_set_out c.requires.1.1.1.0;
}

pub patterns-preserved : goal.patterns-preserved
patterns-preserved g c =
    let spot = c.args.spot.now in
    let s = seen_from spot g.text in
    let i = c.patterns.invariant in
    let ways = c.in-Some.ensures in
    record {
      front = front_next i.front ways.choice;
      inside = ways.inside.1;
      set_out = elim c.if-not-is_idle.branch [
        | then-not-is_idle w ↦
            rw (w.set-is, w.growth-is)
            (way_set_out i.set_out ways.fresh ways.choice w.spread.ensures.same w.spread.ensures.long w.spread.ensures.more
            w.spread.ensures.grown)
        | else-not-is_idle w ↦
            rw (w.set-is, w.growth-is)
            (way_left_out i.set_out ways.fresh ways.choice c.patterns.number (c.is_idle.ensures w.if-not-is_idle.false)
            (c.requires.1.1.0 c.patterns.number c.patterns.place c.in-Some.first c.in-Some.next i.front ways.choice))
      ];
    }
