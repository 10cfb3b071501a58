use Rattle.std.proofs.Common.{◌≡◌, ◌+◌, ◌-◌, ◌*◌, ◌≤◌, ℕ, Bool, List, [], ◌∷◌, ◌++◌, length, reverse, vec_len, Some, None}
use Rattle.rc_walks.specs.Walks.{Pair}
use Rattle.rc_pikevm.specs.Explored.{Grows, IsExploring, count_ended}
use Rattle.rc_pikevm.specs.Near.{seen_from, size}
use Rattle.rc_pikevm.specs.Marking.{AreSame, KeepsMarks, Owed, explored}
use Rattle.rc_pikevm.proofs.ExploredLemmas.{Marks}
use Rattle.rc_pikevm.proofs.which.spread.Given as goal

abbrev pub invariant-ends : goal.invariant-ends
invariant-ends g l = record {
  same : (set : List Bool) → Marks l.ended l.set set → (below : List Pair) → AreSame (length l.fn.set)
      (Owed (seen_from l.spot g.text) l.spot.at l.fn.growth.threads.items l.fn.growth.entered.items ((l.root, l.spot.at) ∷ below) l.fn.set)
      (Owed (seen_from l.spot g.text) l.spot.at l.growth.threads.items l.growth.entered.items
      (explored l.spot.at (reverse l.growth.stack.items) ++ below) set);
  accepted : (number : ℕ) → l.ended ≡ Some number → number ≤ 2147483646;
  empty : l.ended ≡ None → reverse l.growth.stack.items ≡ [];
  long : length l.set ≡ length l.fn.set;
  more : KeepsMarks l.fn.set l.set;
  grown : Grows l.spot g.text l.start l.fn.growth l.growth;
  exploring : IsExploring l.spot g.text l.growth;
}

abbrev pub decreases-ends : goal.decreases-ends
decreases-ends g l = 3 * (size l.spot.course - length l.growth.entered.items) + vec_len l.growth.stack + count_ended l.ended

abbrev pub ghost-close : goal.ghost-close
ghost-close g a = g.text

abbrev pub ghost-drain : goal.ghost-drain
ghost-drain g a = g.text
