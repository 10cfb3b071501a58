use Rattle.std.proofs.Common.{refl, subst}
use Rattle.rc_program.specs.Matches.{from_on}
use Rattle.rc_program.specs.Sought.{search_for}
use Rattle.rc_reach.specs.Live.{over_content}
use Rattle.api_meta.specs.Partials.{IsSettledBefore}
use Rattle.api_meta.specs.Views.{regex_kind, sought}
use Rattle.stream_search.specs.Searches.{seeks}
use Rattle.stream_search.proofs.Kept.{seen}
use Rattle.stream_search.proofs.search.settled_of.Goals as goal

pub returns-clause-settled : goal.returns-clause-settled
returns-clause-settled g c =
    let r = g.F.PartialFinder.searched_by c.args.finder.now in
    let i = c.args.input.now in
    let k = c.settled_before.result in
    let here = subst (λ x. IsSettledBefore (regex_kind x) (search_for (sought x) i) k) c.its_regex.ensures c.settled_before.ensures.settled in
    let same = seen (sought r) i i.content i.span.start c.requires.over refl c.content_fits.ensures refl in
    let there : IsSettledBefore (regex_kind r) (from_on (over_content (seeks r) i.content) i.span.start) k =
    subst (λ x. IsSettledBefore (regex_kind r) x k) same here in
    record { final = there.final; onward = there.onward }
