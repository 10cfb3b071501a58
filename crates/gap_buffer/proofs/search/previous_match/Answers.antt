use Rattle.std.proofs.Common.{◌≡◌, ◌∙◌, ap, subst, sym}
use Rattle.rc_program.proofs.KindLemmas.{kinds_law}
use Rattle.rc_program.specs.Matches.{AreInOrder, begin_of, end_of}
use Rattle.rc_program.specs.Sought.{search_for}
use Rattle.api_meta.specs.Left.{find_left}
use Rattle.api_meta.specs.Views.{regex_kind, sought}
use Rattle.regex_cursor.specs.Output.{whole}
use Rattle.gap_buffer.specs.Shown.{last_before, matches_of}
use Rattle.gap_buffer.proofs.search.previous_match.Goals as goal

pub returns : goal.returns
returns c =
    let r = c.args.regex.now in
    let text = c.args.text.now in
    let all = matches_of r text.content in
    let order = kinds_law.in_order (regex_kind r) (search_for (sought r) (whole text.content)) 0 in
    let begun : find_left c.in_ok-matches.matches ≡ all = c.in_ok-matches.ensures in
    c.last_of-last.ensures _ (subst (AreInOrder begin_of end_of _) (sym begun) order)
    ∙ ap (last_before c.caret.result) begun ∙ ap (λ k. last_before k all) c.caret.ensures.value
