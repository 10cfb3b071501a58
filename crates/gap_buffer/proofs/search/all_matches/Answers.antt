use Rattle.std.proofs.Common.{None, ap, ◌∙◌}
use Rattle.rc_program.specs.Kinds.{matches_by_kind}
use Rattle.rc_program.specs.Sought.{search_for}
use Rattle.api_meta.specs.Views.{regex_kind, sought}
use Rattle.regex_cursor.specs.Output.{whole}
use Rattle.gap_buffer.proofs.search.all_matches.Goals as goal

pub returns : goal.returns
returns c =
    let r = c.args.regex.now in
    let i = c.input_from.result in
    c.in_ok-matches.ensures.left_by
    ∙ ap (λ s. matches_by_kind (regex_kind r) s i.span.start None) (c.input_from.ensures.same (sought r))
    ∙ ap (λ k. matches_by_kind (regex_kind r) (search_for (sought r) (whole c.args.text.now.content)) k None) c.input_from.ensures.start
