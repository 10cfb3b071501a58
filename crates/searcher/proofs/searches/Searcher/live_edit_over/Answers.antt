use Rattle.std.proofs.Common.{rules}
use Rattle.searcher.proofs.Lives.{in_order}
use Rattle.searcher.proofs.searches.Searcher.live_edit_over.Goals as goal

pub invariant_of-self-2 : goal.invariant_of-self-2
invariant_of-self-2 c =
    let order = in_order c.deref.result.now c.in_ok-input.input.content c.edit.new.self c.in_ok-changed.ensures.live in
    (search rules, search rules, search rules, search rules, order)
