use Rattle.std.proofs.Common.{false, refl, sym, subst, ⊎_elim, arith}
use Rattle.rc_table_search.specs.Memos.{IsMark}
use Rattle.rc_table_search.proofs.again.leave.Goals as goal

pub returns-clause-memo : goal.returns-clause-memo
returns-clause-memo g c seen bound enough t mark =
    let v = g.T.Transitions.view c.args.table.now false in
    let e = c.is_current.ensures c.if-not-is_current.false in record {
      past = let past = t.past in let era = c.insert.ensures.era in omega (arith, past, era);
      marks = λ same below k has.
          ⊎_elim (λ is. subst (λ k. IsMark v c.args.cache.now seen bound enough k) (sym is) (mark c.if-not-known.false e.0 e.1 _ (refl, refl, refl, c.in-Found.is)))
          (λ old. t.marks e.0 e.1 k old) (c.insert.ensures.marks k has);
    }
