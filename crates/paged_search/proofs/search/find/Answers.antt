use Rattle.std.proofs.Common.{ap, ◌∙◌}
use Rattle.rc_program.specs.Kinds.{answer_by, is_early}
use Rattle.rc_program.specs.Sought.{search_for}
use Rattle.api_meta.specs.Views.{regex_kind, sought}
use Rattle.paged_search.proofs.search.find.Goals as goal

pub returns : goal.returns
returns g c =
    let r = c.args.regex.now in
    c.in_ok-found.ensures.found_by (ap (λ b. is_early b (search_for (sought r) c.input_over.result)) c.input_over.ensures.late)
    ∙ ap (answer_by (regex_kind r)) (c.input_over.ensures.same (sought r))
