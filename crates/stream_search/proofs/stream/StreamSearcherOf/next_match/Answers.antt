use Rattle.std.proofs.Common.{◌++◌, ◌∷◌, []}
use Rattle.stream_search.proofs.Grouped.{told_at}
use Rattle.stream_search.proofs.Told.{placed_after}
use Rattle.stream_search.proofs.stream.StreamSearcherOf.next_match.Goals as goal

pub returns-in_err-found-clause-all : goal.returns-in_err-found-clause-all
returns-in_err-found-clause-all g c = λ fed told was fin none. c.seek.ensures.all fed told was fin c.in_err-found.was

pub invariant_of-self : goal.invariant_of-self
invariant_of-self g c =
    placed_after c.self.view_is c.self.invariant c.in_ok-found.found c.end-self-inside.result c.end.result c.end-self-inside.ensures.value
    c.end.ensures.value c.in_ok-found.ensures.lies

pub returns-clause-told : goal.returns-clause-told
returns-clause-told g c =
    let m = c.in_ok-found.found in
    λ fed told was. told_at c.self.view_is fed (told ++ m ∷ []) m c.end-self-inside.result c.end.result c.end-self-inside.ensures.value
    c.end.ensures.value (c.in_ok-found.ensures.told fed told was)
