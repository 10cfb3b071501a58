use Rattle.live_matches.specs.Live.{listed}
use Rattle.live_matches.specs.Reading.{IsLastBefore}
use Rattle.zorfelith_c.proofs.Listing.{told}
use Rattle.zorfelith_c.proofs.live.put_previous.Goals as goal

pub returns-clause-answered : goal.returns-clause-answered
returns-clause-answered c =
    told (λ l o. IsLastBefore c.args.place (listed l) o) c.in-Some.live.now c.put_match.result c.put_match.new.found c.args.searcher.now.live c.previous_from.result
    c.in-Some.ensures.kept (c.previous_from.ensures 18446744073709551615 c.in-Some.ensures.order) c.put_match.ensures.found
