use Rattle.std.proofs.Common.{◌≡◌, ◌≢◌, rules}
use Rattle.rc_full_parser.specs.Marks.{brackets}
use Rattle.rc_full_parser.specs.View.{mark_of}
use Rattle.rc_explain.proofs.FullMarks.{bracket_first, mark_read}
use Rattle.rc_explain.proofs.full_marks.Scan.mark_at.Goals as goal

pub list_at-requires-clause-opens : goal.list_at-requires-clause-opens
list_at-requires-clause-opens c =
    let is : mark_of c.in-Ok.mark ≡ brackets = search rules in
    bracket_first _ c.args.text.now c.in-Ok.rest.now (mark_of c.in-Ok.mark) c.in-Ok.ensures is

pub returns-else-is_bracket : goal.returns-else-is_bracket
returns-else-is_bracket c =
    let other : mark_of c.in-Ok.mark ≢ brackets = search rules in
    mark_read _ c.args.text.now c.in-Ok.rest.now (mark_of c.in-Ok.mark) c.saturating_sub-count.result other c.in-Ok.ensures c.saturating_sub-count.ensures
