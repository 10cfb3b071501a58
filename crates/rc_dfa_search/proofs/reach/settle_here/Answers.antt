use Rattle.std.proofs.Common.{Ok, Option, ◌≡◌, arith, subst, sym}
use Rattle.std.proofs.lemmas.Result.{IfOk-weaker}
use Rattle.rc_dfa.specs.declared.ended.Met.{Met}
use Rattle.rc_dfa_reach.specs.RunReach.{seen_to}
use Rattle.rc_dfa_search.specs.Aims.{search_for}
use Rattle.rc_dfa_search.specs.Ends.{told_of}
use Rattle.rc_dfa_search.specs.Firsts.{starting_at}
use Rattle.rc_dfa_search.specs.Reaches.{IsAnswerBelow, found_from}
use Rattle.rc_dfa_search.specs.declared.reach.Settled.{Settled}
use Rattle.rc_dfa_search.proofs.SettledLemmas.{here_below, met_below_so}
use Rattle.rc_dfa_search.proofs.reach.settle_here.Goals as goal

pub returns-clause-settled : goal.returns-clause-settled
returns-clause-settled g c aim hs terminator of goes =
    let s = c.args.input.now in
    let q = search_for aim hs terminator s in
    let reading = c.run_forwards-reading.result in
    let from = c.args.from in
    let met = here_below (g.H.Halves.AreOf c.args.halves.now) aim hs terminator of s goes from c.requires.low (omega (arith, c.requires.within, c.requires.bound))
    reading.ended reading.read c.run_forwards-reading.ensures.ended in
    IfOk-weaker c.settled_by.result
    (λ (o : Settled). (o.reach ≡ reading.read) × ((met : Option Met) × (told_of reading.ended ≡ Ok met) × (o.found ≡ found_from from c.args.bound met)))
    (λ (o : Settled). IsAnswerBelow aim.kind (starting_at from q) (seen_to of.ahead.alphabet o.reach) o.found)
    (λ o told. subst (λ r. IsAnswerBelow aim.kind (starting_at from q) (seen_to of.ahead.alphabet r) o.found) (sym told.0)
    (met_below_so aim.kind q from (seen_to of.ahead.alphabet reading.read) c.args.bound (told_of reading.ended) o.found c.requires.bound met told.1))
    c.settled_by.ensures.told
