use Rattle.std.proofs.Common.{[], None, false, sym, subst}
use Rattle.api_meta.specs.Views.{regex_kind}
use Rattle.stream_search.specs.Searches.{seeks}
use Rattle.stream_search.specs.Streams.{IsStream}
use Rattle.stream_search.proofs.Streaming.{first}
use Rattle.stream_search.proofs.stream.StreamSearcherOf.over.Goals as goal

pub returns-clause-fed : goal.returns-clause-fed
returns-clause-fed g c =
    let r = g.F.PartialFinder.searched_by c.args.finder in
    subst (λ xs. IsStream (regex_kind r) (seeks r) [] [] false xs 0 0 None) (sym c.new.ensures.items) (first (regex_kind r) (seeks r))
