use Rattle.std.proofs.Common.{rules}
use Rattle.rc_iter.proofs.Meeting.{at_once, later}
use Rattle.rc_iter.proofs.searcher.SearcherOf.next_by.Goals as goal

-- the first call failed
pub returns-in_err-found-clause-failed : goal.returns-in_err-found-clause-failed
returns-in_err-found-clause-failed g c =
    at_once g.M.Ending.begin g.M.Ending.end g.I.KeptInput.searched g.F.FnMut c.args.self.now _ _ _ _ _ (c.ask.ensures.answers c.args.self.now.input (search rules))
    c.in_err-found.was (search rules)

-- the call from a byte later failed
pub returns-in_err-found-2-clause-failed : goal.returns-in_err-found-2-clause-failed
returns-in_err-found-2-clause-failed g c =
    later g.M.Ending.begin g.M.Ending.end g.I.KeptInput.searched g.F.FnMut c.args.self.now _ _ _ _ c.in-Some.found _ _ _
    (c.ask.ensures.answers c.args.self.now.input (search rules)) (search rules) (search rules)
    (c.ask-later.ensures.answers _ (search rules)) c.in_err-found-2.was (search rules)
