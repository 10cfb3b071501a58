use Rattle.std.proofs.Common.{◌∙◌, ap, subst}
use Rattle.rc_program.specs.Kinds.{answer_by}
use Rattle.rc_reach.specs.Settled.{IsSettled}
use Rattle.api_meta.specs.Views.{regex_kind, sought}
use Rattle.live_matches.specs.Live.{seeks}
use Rattle.live_matches.proofs.Searches.{settled_fixed, sought_from}
use Rattle.live_matches.proofs.search.search_from.Goals as goal

pub returns-clause-found : goal.returns-clause-found
returns-clause-found g c =
    let r = c.args.regex.now in
    let set = c.set_start.ensures in
    c.search_reach_with.ensures.found
    ∙ ap (answer_by (regex_kind r)) (sought_from (sought r) c.args.input.now c.set_start.new.self c.args.at c.requires.over c.content_fits.ensures
    set.keeps set.start set.end set.slice)

pub returns-clause-fixed : goal.returns-clause-fixed
returns-clause-fixed g c =
    let r = c.args.regex.now in
    let set = c.set_start.ensures in
    settled_fixed (regex_kind r) (seeks r) c.args.input.now.content c.search_reach_with.result.reach c.args.at
    (subst (IsSettled (regex_kind r) c.search_reach_with.result.reach)
    (sought_from (sought r) c.args.input.now c.set_start.new.self c.args.at c.requires.over c.content_fits.ensures set.keeps set.start set.end set.slice)
    c.search_reach_with.ensures.settled)
