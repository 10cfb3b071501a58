use Rattle.std.proofs.Common.{ap, ◌∙◌}
use Rattle.rc_program.specs.Kinds.{answer_by, is_early}
use Rattle.rc_program.specs.Sought.{search_for}
use Rattle.api_meta.specs.Views.{regex_kind, sought}
use Rattle.rcgrep.specs.Picked.{from_place}
use Rattle.rcgrep.specs.Selecting.{Selecting}
use Rattle.rcgrep.proofs.line_regex.LineRegex.find_from.Goals as goal

pub returns-clause-found : goal.returns-clause-found
returns-clause-found c =
    λ _.
    let r = c.self.inside.patterns.now.regex in
    c.search_with.ensures.found_by (ap (λ b. is_early b (search_for (sought r) c.input_from-input.result)) c.input_from-input.ensures.late)
    ∙ ap (answer_by (regex_kind r)) (c.input_from-input.ensures.line (sought r))
    ∙ ap (λ (s : Selecting). answer_by (regex_kind s.regex) (search_for (sought s.regex) (from_place c.args.line.now c.args.from))) c.self.view_is
