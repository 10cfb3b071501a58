use Rattle.rc_iter.proofs.Lists.{halves_law}
use Rattle.rc_iter.proofs.searcher.SearcherOf.into_half_matches_iter.Goals as goal

pub returns-clause-law : goal.returns-clause-law
returns-clause-law g c = halves_law g.I.KeptInput.searched g.F.FnMut c.args.self c.args.finder
