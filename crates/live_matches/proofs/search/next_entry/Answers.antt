use Rattle.std.proofs.Common.{◌≡◌, ◌+◌, ◌∙◌, true, sym, ap, subst, arith}
use Rattle.rc_program.specs.Matches.{begin_of, end_of, is_again}
use Rattle.rc_reach.specs.Fixed.{IsFixed}
use Rattle.rc_reach.specs.Live.{found_by}
use Rattle.api_meta.specs.Views.{regex_kind}
use Rattle.live_matches.specs.Live.{seeks}
use Rattle.live_matches.proofs.Nexts.{again}
use Rattle.live_matches.proofs.search.next_entry.Goals as goal

-- the search from the next byte counts
pub returns-in-Some-found-clause-next : goal.returns-in-Some-found-clause-next
returns-in-Some-found-clause-next g c =
    let r = c.args.regex.now in
    let kind = regex_kind r in
    let s = seeks r in
    let content = c.args.input.now.content in
    let last = c.args.last in
    let start = c.place_of-start.ensures in
    let there = c.search_from-first.ensures.goes.content in
    let twice : is_again begin_of end_of last c.in-Some.found ≡ true = sym c.is_again.ensures ∙ c.if-not-is_again.false in
    again kind s content last c.in-Some.found c.in-Some-found.found c.search_from-first.result.reach c.search_from-second.result.reach
    c.entry_of-in-Some-found.result
    (ap (found_by kind s content) (sym start) ∙ sym c.search_from-first.ensures.found ∙ c.in-Some.is)
    twice
    (ap (λ k. found_by kind s content (k + 1)) (sym start) ∙ sym (c.search_from-second.ensures.found ∙ ap (λ x. found_by kind s x (c.place_of-start.result + 1)) there)
    ∙ c.in-Some-found.is)
    (subst (IsFixed kind s content c.search_from-first.result.reach) start c.search_from-first.ensures.fixed)
    (subst (λ k. IsFixed kind s content c.search_from-second.result.reach (k + 1)) start
    (subst (λ x. IsFixed kind s x c.search_from-second.result.reach (c.place_of-start.result + 1)) there c.search_from-second.ensures.fixed))
    c.entry_of-in-Some-found.ensures.found (omega (arith, c.entry_of-in-Some-found.ensures.reach, c.max.ensures))
