use Rattle.std.proofs.Common.{ap, ◌∙◌}
use Rattle.rc_program.specs.Kinds.{answer_by, is_early}
use Rattle.rc_program.specs.Sought.{search_for}
use Rattle.api_meta.specs.Views.{regex_kind, sought}
use Rattle.gap_buffer.specs.Shown.{from_place}
use Rattle.gap_buffer.proofs.search.next_match.Goals as goal

pub returns-clause-found : goal.returns-clause-found
returns-clause-found c =
    let r = c.args.regex.now in
    let text = c.args.text.now in
    c.search_with.ensures.found_by (ap (λ b. is_early b (search_for (sought r) c.input_from-input.result)) c.input_from-input.ensures.late) ∙ ap (answer_by (regex_kind r)) (c.input_from-input.ensures.same (sought r))
    ∙ ap (λ at. answer_by (regex_kind r) (search_for (sought r) (from_place text.content at))) c.caret.ensures.value
