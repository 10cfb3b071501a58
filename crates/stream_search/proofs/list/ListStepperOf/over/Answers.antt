use Rattle.stream_search.proofs.Listed.{none_told}
use Rattle.stream_search.proofs.list.ListStepperOf.over.Goals as goal

pub returns-clause-told : goal.returns-clause-told
returns-clause-told g c = λ content. none_told (g.F.PartialFinder.searched_by c.args.finder) content
