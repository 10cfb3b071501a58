use Rattle.std.proofs.Common.{◌++◌, ◌∙◌}
use Rattle.stream_search.proofs.Told.{feeds_now, taken_now}
use Rattle.stream_search.proofs.stream.StreamSearcherOf.feed.Goals as goal

pub returns-clause-fed : goal.returns-clause-fed
returns-clause-fed g c =
    let chunk = c.args.chunk.now in
    λ fed told was. taken_now (c.self-2.view_is ∙ c.let_go.ensures) (fed ++ chunk) chunk c.extend_from_slice.new.self.items told
    c.in_ok-extend_from_slice.ensures.items (feeds_now c.self.view_is fed told was chunk c.self.invariant c.if-self.false)
