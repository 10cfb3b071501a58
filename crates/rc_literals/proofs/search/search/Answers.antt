use Rattle.std.proofs.Common.{length}
use Rattle.rc_text.specs.Text.{low, high}
use Rattle.rc_needles.specs.Prefilters.{needles_of}
use Rattle.rc_literals.proofs.OwnedLemmas.{if_found, if_prefix}
use Rattle.rc_literals.proofs.search.search.Goals as goal

pub owned_match-requires-clause-there : goal.owned_match-requires-clause-there
owned_match-requires-clause-there g c =
    let s = c.args.input.now in
    let ns = c.args.needles.now in
    if_found c.find.result (needles_of ns.prefilter) s.content (low s) (high s) (length ns.owners.items) ns.each c.find.ensures.value

pub owned_match-requires-in-Yes-clause-there : goal.owned_match-requires-in-Yes-clause-there
owned_match-requires-in-Yes-clause-there g c =
    let s = c.args.input.now in
    let ns = c.args.needles.now in
    if_prefix c.prefix.result (needles_of ns.prefilter) s.content (low s) (high s) (length ns.owners.items) ns.each c.prefix.ensures.value
