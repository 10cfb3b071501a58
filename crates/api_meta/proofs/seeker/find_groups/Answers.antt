use Rattle.std.proofs.Common.{◌∙◌, sym}
use Rattle.rc_build.proofs.Fitted.{answer_same}
use Rattle.rc_pikevm_search.proofs.Steps.{answer_lies}
use Rattle.rc_pikevm_search.specs.Tells.{KeepsAll}
use Rattle.rc_program.specs.Sought.{search_for}
use Rattle.api_meta.specs.Views.{regex_kind, regex_names, sought}
use Rattle.api_meta.proofs.Going.{same_match}
use Rattle.api_meta.proofs.seeker.find_groups.Given.{Over}
use Rattle.api_meta.proofs.seeker.find_groups.Goals as goal
use Rattle.api_meta.proofs.seeker.find_groups.Goals.{After-get_match}

kept : (g : Over) (c : After-get_match g) → KeepsAll (regex_names c.args.regex.now) c.find_captures.new.caps
kept g c = record {
  named = c.find_captures.ensures.names ∙ c.requires.whole.named;
  sized = c.find_captures.ensures.long ∙ c.requires.whole.sized;
}

pub returns-clause-found : goal.returns-clause-found
returns-clause-found g c =
    let k = (goal.at.returns-clause-found g c).After-get_match in
    c.get_match.ensures ∙ same_match c.args.regex.now c.args.input.now c.find_captures.new.caps (kept g k) c.find_captures.ensures.found
    ∙ sym (answer_same c.args.regex.now.fits c.args.input.now)

pub returns-clause-within : goal.returns-clause-within
returns-clause-within g c =
    let k = (goal.at.returns-clause-within g c).After-get_match in
    let r = c.args.regex.now in
    let i = c.args.input.now in
    answer_lies (regex_kind r) (search_for (sought r) i) c.get_match.result
    (c.get_match.ensures ∙ same_match r i c.find_captures.new.caps (kept g k) c.find_captures.ensures.found)
