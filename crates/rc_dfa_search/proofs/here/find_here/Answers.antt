use Rattle.std.proofs.Common.{IfOk, IfSome, subst}
use Rattle.rc_text.specs.Bounds.{IsWithinBounds}
use Rattle.rc_dfa_search.proofs.HereLemmas.{found_there}
use Rattle.rc_dfa_search.proofs.here.find_here.Goals as goal

pub returns-clause-found : goal.returns-clause-found
returns-clause-found g c hs terminator of =
    found_there c.args.aim hs terminator c.args.input.now c.requires.may c.set_anchored.new.self c.set_anchored.ensures
    c.args.bounds.low c.requires.bounds.0 c.find_between-found.result (c.find_between-found.ensures.found hs terminator of)

pub returns-clause-within : goal.returns-clause-within
returns-clause-within g c =
    subst (λ s. IfOk c.find_between-found.result (λ found. IfSome found (IsWithinBounds s))) c.set_anchored.ensures c.find_between-found.ensures.within
