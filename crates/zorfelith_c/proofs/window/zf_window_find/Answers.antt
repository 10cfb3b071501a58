use Rattle.std.proofs.Common.{inl, inr, refl, subst}
use Rattle.rc_text.specs.Joined.{joined}
use Rattle.searcher.specs.Searching.{Searching}
use Rattle.searcher.specs.Windows.{IsTold}
use Rattle.searcher.specs.declared.answers.Window.{Window}
use Rattle.searcher.specs.declared.answers.WindowAnswer.TheVariants.{MoreAfter}
use Rattle.zorfelith_c.specs.Windows.{window_of}
use Rattle.zorfelith_c.proofs.window.zf_window_find.Goals as goal

pub returns-in-MoreAfter-clause-answered : goal.returns-in-MoreAfter-clause-answered
returns-in-MoreAfter-clause-answered c =
    let bytes = joined c.args.chunks.now in
    let from = c.args.from.now in
    let place = c.in-MoreAfter.place in
    let told = subst (λ a. IsTold c.deref_mut.result.now.regex c.window.result bytes from c.args.end a) c.in-MoreAfter.is c.in-Ok.ensures.told in
    rw c.take-held.ensures.taken
    (inr (inr (inl (
      refl,
      subst (λ (s : Searching). IsTold s.regex (window_of c.args.window.now) bytes from c.args.end (MoreAfter place)) c.deref_mut.ensures.value
          (subst (λ (w : Window). IsTold c.deref_mut.result.now.regex w bytes from c.args.end (MoreAfter place)) c.window.ensures told),
    ))))
