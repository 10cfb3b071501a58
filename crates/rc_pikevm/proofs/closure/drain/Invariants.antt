use Rattle.std.proofs.Common.{◌+◌, ◌-◌, ◌*◌, ◌≤◌, length, vec_len, None}
use Rattle.rc_pikevm.specs.Explored.{Explores, Grows, IsExploring, closure_of}
use Rattle.rc_pikevm.specs.Near.{seen_from, size}
use Rattle.rc_pikevm.proofs.closure.drain.Given as goal

abbrev pub invariant-frames : goal.invariant-frames
invariant-frames g l = record {
  explored : Explores (seen_from l.spot g.text) l.spot.at l.start (closure_of l.fn.growth) None (closure_of l.growth);
  grown : Grows l.spot g.text l.start l.fn.growth l.growth;
  exploring : IsExploring l.spot g.text l.growth;
  falls : vec_len l.growth.stack + 3 * length l.fn.growth.entered.items ≤ vec_len l.fn.growth.stack + 3 * length l.growth.entered.items;
}

abbrev pub decreases-frames : goal.decreases-frames
decreases-frames g l = 3 * (size l.spot.course - length l.growth.entered.items) + vec_len l.growth.stack

abbrev pub ghost-enter : goal.ghost-enter
ghost-enter g a = g.text

abbrev pub ghost-way_in : goal.ghost-way_in
ghost-way_in g a = g.text
