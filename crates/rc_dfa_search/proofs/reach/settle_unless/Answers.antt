use Rattle.std.proofs.Common.{IfOk, IfSome, subst}
use Rattle.rc_dfa_reach.specs.RunReach.{seen_to}
use Rattle.rc_dfa_search.specs.Aims.{search_for}
use Rattle.rc_dfa_search.specs.Firsts.{starting_at}
use Rattle.rc_dfa_search.specs.Reaches.{IsAnswerBelow}
use Rattle.rc_dfa_search.proofs.reach.settle_unless.Goals as goal

pub returns-in-Some-clause-settled : goal.returns-in-Some-clause-settled
returns-in-Some-clause-settled g c aim hs terminator of goes =
    subst (λ k. IfSome k (λ told. IfOk told (λ o. IsAnswerBelow aim.kind (starting_at c.args.from (search_for aim hs terminator g.seen))
    (seen_to of.ahead.alphabet o.reach) o.found))) c.in-Some.is (c.requires.1.1.1.1.1.1.1.1.0 aim hs terminator of goes)
