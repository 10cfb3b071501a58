use Rattle.std.proofs.Common.{sym}
use Rattle.rc_dfa_reach.specs.RunReach.{seen_to}
use Rattle.rc_dfa_search.specs.Aims.{search_for}
use Rattle.rc_dfa_search.proofs.ReachLemmas.{itself}
use Rattle.rc_dfa_search.proofs.SettledLemmas.{inside_of}
use Rattle.rc_dfa_search.proofs.needles.find_by_needles.Goals as goal

pub returns-clause-found : goal.returns-clause-found
returns-clause-found g c hs terminator of guards none =
    let q = search_for c.args.aim hs terminator c.args.input.now in
    sym (c.in_ok-settled.ensures.settled hs terminator of guards none q (inside_of c.args.aim hs terminator c.args.input.now) (itself q (seen_to of.ahead.alphabet c.in_ok-settled.settled.reach)))
