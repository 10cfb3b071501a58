use Rattle.std.proofs.Common.{Ok, Option, ◌≡◌, arith, subst, sym}
use Rattle.std.proofs.lemmas.Result.{IfOk-weaker}
use Rattle.rc_dfa.specs.declared.ended.Met.{Met}
use Rattle.rc_dfa_reach.specs.RunReach.{seen_to}
use Rattle.rc_dfa_search.specs.Aims.{search_for}
use Rattle.rc_dfa_search.specs.Ends.{told_of}
use Rattle.rc_dfa_search.specs.Firsts.{starting_at}
use Rattle.rc_dfa_search.specs.Reaches.{IsAnswerBelow, found_from}
use Rattle.rc_dfa_search.specs.declared.reach.Settled.{Settled}
use Rattle.rc_dfa_search.proofs.SettledLemmas.{here_below, met_below_so}
use Rattle.rc_dfa_search.proofs.reach.settle_inside.Goals as goal

pub returns-clause-settled : goal.returns-clause-settled
returns-clause-settled g c = λ seen aim hs terminator of piece same low goes.
    let q = search_for aim hs terminator seen in
    let reading = c.in_ok-reading.reading in
    let from = c.args.from in
    let met = here_below (g.H.Halves.AreOf c.args.halves.now) aim hs terminator of seen goes from low (omega (arith, c.requires.within, same))
    reading.ended reading.read (λ m n are asked. c.in_ok-reading.ensures.ended seen m n piece same are asked) in
    IfOk-weaker c.settled_by.result
    (λ (o : Settled). (o.reach ≡ reading.read) × ((met : Option Met) × (told_of reading.ended ≡ Ok met) × (o.found ≡ found_from from c.args.bound met)))
    (λ (o : Settled). IsAnswerBelow aim.kind (starting_at from q) (seen_to of.ahead.alphabet o.reach) o.found)
    (λ o told. subst (λ r. IsAnswerBelow aim.kind (starting_at from q) (seen_to of.ahead.alphabet r) o.found) (sym told.0)
    (met_below_so aim.kind q from (seen_to of.ahead.alphabet reading.read) c.args.bound (told_of reading.ended) o.found same met told.1))
    c.settled_by.ensures.told
