use Rattle.std.proofs.Common.{ℕ, ◌≡◌, [], List, subst, false}
use Rattle.stream_search.specs.Searching.{Streaming, WasFed}
use Rattle.rcgrep.specs.Long.{IsKnown}
use Rattle.rcgrep.proofs.LongLemmas.{asked}
use Rattle.rcgrep.proofs.long_line.LongLine.search_held.Goals as goal

-- a match was found, or none
pub returns-clause-told : goal.returns-clause-told
returns-clause-told c = λ bytes told.
    let s = c.args.self.now.search in
    let known : IsKnown false s bytes = subst (λ b. IsKnown b s bytes) c.requires told in
    asked s c.next_match.new.self bytes c.next_match.ensures.stays c.next_match.result c.is_some-self.result c.is_some-self.ensures known.1
    (c.next_match.ensures.told bytes [] known.0)
