use Rattle.rc_iter.specs.Searchers.{halves_of}
use Rattle.rc_iter.proofs.Halved.{half_answer}
use Rattle.rc_iter.proofs.searcher.SearcherOf.try_advance_half.Goals as goal

-- the half of the next match
pub returns-clause-halves : goal.returns-clause-halves
returns-clause-halves g c find ahead answers past =
    half_answer find c.args.self.now c.next_by.result ahead past (c.next_by.ensures.exact (halves_of find) answers)
