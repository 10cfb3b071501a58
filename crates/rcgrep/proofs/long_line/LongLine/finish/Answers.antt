use Rattle.std.proofs.Common.{ℕ, ◌≡◌, ◌∙◌, [], List, ap, subst, false, true}
use Rattle.stream_search.specs.Searching.{Streaming, WasFed}
use Rattle.rcgrep.specs.Long.{IsKnown}
use Rattle.rcgrep.specs.Picked.{has_match}
use Rattle.rcgrep.proofs.LongLemmas.{ended}
use Rattle.rcgrep.proofs.long_line.LongLine.finish.Goals as goal

-- no match was found before the end
pub returns : goal.returns
returns c = λ line told fits.
    let s = c.args.self.now.search in
    let known : IsKnown false s line = subst (λ b. IsKnown b s line) c.if-self.false told in
    let last = c.finish.new.self in
    let was : WasFed line [] last = c.finish.ensures.fed line [] known.0 in
    let over : last.is_finished ≡ true = ap (λ (x : Streaming). x.is_finished) c.finish.ensures.finished in
    ended last c.next_match.new.self line c.next_match.ensures.stays c.next_match.result c.is_some.result c.is_some.ensures over fits (c.next_match.ensures.told line [] was)
    (c.next_match.ensures.all line [] was over) ∙ ap (λ (x : Streaming). has_match x.regex line) c.finish.ensures.finished
