use Rattle.std.proofs.Common.{subst, sym, ◌∙◌}
use Rattle.rc_dfa_search.specs.Firsts.{MayBeginThere}
use Rattle.rc_dfa_search.proofs.HereLemmas.{is_found}
use Rattle.rc_dfa_search.proofs.here.find_here_first.Goals as goal

pub returns-then-is_some-clause-found : goal.returns-then-is_some-clause-found
returns-then-is_some-clause-found g c hs terminator of =
    is_found c.args.aim hs terminator c.args.input.now
    (subst (MayBeginThere c.args.aim) c.get_anchored.ensures (c.may_begin_there.ensures c.if-may_begin_there.true))
    c.in_ok-here.here (sym c.is_some.ensures ∙ c.if-is_some.true) (c.in_ok-here.ensures.found hs terminator of)
