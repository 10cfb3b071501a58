use Rattle.stream_search.proofs.Told.{finishes_now}
use Rattle.stream_search.proofs.stream.StreamSearcherOf.finish.Goals as goal

pub returns-clause-fed : goal.returns-clause-fed
returns-clause-fed g c = λ fed told was. finishes_now c.self.view_is fed told was
