use Rattle.std.proofs.Common.{◌≡◌, MatchOption, None, Option, rules, subst, sym}
use Rattle.searcher.specs.Searching.{Searching}
use Rattle.zorfelith_c.specs.Statuses.{empty}
use Rattle.zorfelith_c.specs.Streams.{OfStream, TellsNext}
use Rattle.zorfelith_c.proofs.stream.zf_stream_next.Goals as goal
use Rattle.zorfelith_c.proofs.stream.zf_stream_next.Goals.{in-Some, in-None}

pub returns-clause-answered : goal.returns-clause-answered
returns-clause-answered c =
    let s = c.take-held.result.value in
    let t = c.match-take_stream.held.value in
    let status = c.match-take_stream.status in
    let found = c.match-take_stream.found in
    let left : OfStream s status t (TellsNext status found) = elim c.match-take_stream.branch [
      | in-Some w ↦ search rules
      | in-None w ↦ search rules
    ] in
    subst (λ (o : Option Searching). MatchOption o ((status ≡ empty) × (c.of.result.held.value ≡ None))
    (λ (s : Searching). MatchOption c.of.result.held.value ⊥ (λ (t : Searching). OfStream s status t (TellsNext status found))))
    (sym c.take-held.ensures.taken)
    (subst (λ (o : Option Searching). MatchOption o ⊥ (λ (t : Searching). OfStream s status t (TellsNext status found))) (sym c.of.ensures) left)
