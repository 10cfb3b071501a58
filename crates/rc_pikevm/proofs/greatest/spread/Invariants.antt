use Rattle.std.proofs.Common.{◌≡◌, ◌+◌, ◌-◌, ◌*◌, List, [], ◌∷◌, ◌++◌, length, reverse, vec_len, Option, None}
use Rattle.rc_text.specs.Found.{Found}
use Rattle.rc_pikevm.specs.Explored.{Grows, IsExploring, count_ended}
use Rattle.rc_pikevm.specs.Near.{seen_from, size}
use Rattle.rc_pikevm.specs.Spread.{BeginFrom, IsOrdered, Runner, Seeks, StaysCounted, runners_of}
use Rattle.rc_pikevm.specs.declared.pass.Ending.{Ending}
use Rattle.rc_pikevm.proofs.ExploredLemmas.{Greatens}
use Rattle.rc_pikevm.proofs.greatest.spread.Given as goal

abbrev pub invariant-ends : goal.invariant-ends
invariant-ends g l = record {
  seeks : (best : Option Ending) → Greatens l.start l.spot.at l.ended l.best best → (below : List Runner) (o : Option Found) → BeginFrom l.start below →
      Seeks (seen_from l.spot g.text) l.spot.at l.growth.threads.items l.growth.entered.items
      (runners_of l.start l.spot.at (reverse l.growth.stack.items) ++ below) best o →
      Seeks (seen_from l.spot g.text) l.spot.at l.fn.growth.threads.items l.fn.growth.entered.items ((l.start, (l.root, l.spot.at)) ∷ below) l.fn.best o;
  empty : l.ended ≡ None → reverse l.growth.stack.items ≡ [];
  ordered : IsOrdered l.start l.growth.threads.items;
  counted : StaysCounted l.start l.spot.at l.fn.best l.best;
  grown : Grows l.spot g.text l.start l.fn.growth l.growth;
  exploring : IsExploring l.spot g.text l.growth;
}

abbrev pub decreases-ends : goal.decreases-ends
decreases-ends g l = 3 * (size l.spot.course - length l.growth.entered.items) + vec_len l.growth.stack + count_ended l.ended

abbrev pub ghost-close : goal.ghost-close
ghost-close g a = g.text

abbrev pub ghost-drain : goal.ghost-drain
ghost-drain g a = g.text
