use Rattle.std.proofs.Common.{Some, ◌∙◌, ap, sym, subst}
use Rattle.rc_table_search.specs.Views.{IsNoted}
use Rattle.rc_table_search.proofs.search.told.Goals as goal

pub returns-in-Some : goal.returns-in-Some
returns-in-Some g c = record {
  done = c.met_at.ensures.done;
  says = λ m of found tells.
      let n = subst (λ k. IsNoted (g.T.Transitions.view c.args.table.now g.W.Way.BACKWARDS) m k found) c.in-Some.is tells in
      c.met_at.ensures.says m of found (n.2 ∙ ap (λ k. Some (k, c.in-Some.at)) (sym (c.find.ensures m n.0 n.1)));
}
