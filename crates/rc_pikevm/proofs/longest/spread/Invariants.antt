use Rattle.std.proofs.Common.{◌≡◌, ◌+◌, ◌-◌, ◌*◌, ℕ, List, [], ◌∷◌, ◌++◌, length, reverse, vec_len, Option, None}
use Rattle.rc_walks.specs.Walks.{Pair}
use Rattle.rc_pikevm.specs.Explored.{Grows, IsExploring, count_ended}
use Rattle.rc_pikevm.specs.Near.{seen_from, size}
use Rattle.rc_pikevm.specs.Passing.{waits}
use Rattle.rc_pikevm.specs.Races.{Races, IsSought}
use Rattle.rc_pikevm.specs.Spread.{StaysCounted}
use Rattle.rc_pikevm.specs.Trace.{Trace, trace}
use Rattle.rc_pikevm.specs.declared.pass.Ending.{Ending}
use Rattle.rc_pikevm.proofs.ExploredLemmas.{Records}
use Rattle.rc_pikevm.proofs.longest.spread.Given as goal

abbrev pub invariant-ends : goal.invariant-ends
invariant-ends g l = record {
  races : (best : Option Ending) (found : List (Option ℕ)) → Records l.start l.spot.at l.ended l.growth.slots.items l.best l.found best found →
      (all below : List (Trace × Pair)) →
      Races (seen_from l.spot g.text) all l.spot.at l.fn.growth.threads.items l.fn.growth.entered.items
      ((trace l.start l.fn.growth.slots.items, (l.root, l.spot.at)) ∷ below) l.fn.best l.fn.found →
      Races (seen_from l.spot g.text) all l.spot.at l.growth.threads.items l.growth.entered.items
      (waits l.start l.spot.at (reverse l.growth.stack.items) l.growth.slots.items ++ below) best found;
  empty : l.ended ≡ None → reverse l.growth.stack.items ≡ [];
  sought : IsSought l.best l.start;
  counted : StaysCounted l.start l.spot.at l.fn.best l.best;
  grown : Grows l.spot g.text l.start l.fn.growth l.growth;
  exploring : IsExploring l.spot g.text l.growth;
}

abbrev pub decreases-ends : goal.decreases-ends
decreases-ends g l = 3 * (size l.spot.course - length l.growth.entered.items) + vec_len l.growth.stack + count_ended l.ended

abbrev pub ghost-close : goal.ghost-close
ghost-close g a = g.text

abbrev pub ghost-drain : goal.ghost-drain
ghost-drain g a = g.text
