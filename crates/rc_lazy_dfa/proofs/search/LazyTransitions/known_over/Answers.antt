use Rattle.rc_lazy_dfa.proofs.SearchLemmas.{step_over_says}
use Rattle.rc_lazy_dfa.proofs.search.LazyTransitions.known_over.Goals as goal

pub returns : goal.returns
returns g c = λ reads ne.
    step_over_says c.args.self.now g.W.Way.BACKWARDS c.args.cache.now c.args.cache.now c.requires.cache.held c.args.row c.args.symbol c.known.result c.requires.row
    (c.known.ensures ne)
