use Rattle.std.proofs.Common.{◌≡◌, MatchOption, None, Option, rules, subst, sym}
use Rattle.searcher.specs.Searching.{Searching}
use Rattle.zorfelith_c.specs.Statuses.{empty}
use Rattle.zorfelith_c.specs.Streams.{OfStream, TellsFed}
use Rattle.zorfelith_c.proofs.stream.zf_stream_feed.Goals as goal
use Rattle.zorfelith_c.proofs.stream.zf_stream_feed.Goals.{in-Some, in-None}

pub returns : goal.returns
returns c =
    let s = c.take-held.result.value in
    let t = c.match-take_stream.held.value in
    let status = c.match-take_stream.status in
    let left : OfStream s status t (TellsFed c.args.chunk.now status) = elim c.match-take_stream.branch [
      | in-Some w ↦ search rules
      | in-None w ↦ search rules
    ] in
    subst (λ (o : Option Searching). MatchOption o ((status ≡ empty) × (c.of.result.held.value ≡ None))
    (λ (s : Searching). MatchOption c.of.result.held.value ⊥ (λ (t : Searching). OfStream s status t (TellsFed c.args.chunk.now status))))
    (sym c.take-held.ensures.taken)
    (subst (λ (o : Option Searching). MatchOption o ⊥ (λ (t : Searching). OfStream s status t (TellsFed c.args.chunk.now status))) (sym c.of.ensures) left)
