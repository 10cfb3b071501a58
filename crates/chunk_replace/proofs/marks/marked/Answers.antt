use Rattle.std.proofs.Common.{Some, None, arith}
use Rattle.std.proofs.lemmas.Str.Pattern.{strip_prefix_char}
use Rattle.chunk_replace.proofs.Reading.{marks_group, unclosed, unopened, unreferred}
use Rattle.chunk_replace.proofs.marks.marked.Goals as goal

pub returns-in_err-strip_prefix : goal.returns-in_err-strip_prefix
returns-in_err-strip_prefix c =
    rw c.from_residual.ensures
    (unopened c.args.text.now (strip_prefix_char 36 c.args.text.now None c.in_default.ensures.cases (omega arith))
    (strip_prefix_char 123 c.args.text.now None c.in_err-strip_prefix.ensures.cases (omega arith)))

pub returns-in_err-word : goal.returns-in_err-word
returns-in_err-word c =
    rw c.from_residual-in_err-word.ensures
    (unclosed c.args.text.now _ c.split_once.result (strip_prefix_char 36 c.args.text.now None c.in_default.ensures.cases (omega arith))
    (strip_prefix_char 123 c.args.text.now (Some c.in_ok-strip_prefix.field-0) c.in_ok-strip_prefix.ensures.cases (omega arith)) c.split_once.ensures.cases
    c.in_err-word.was)

pub returns-in_err-reference : goal.returns-in_err-reference
returns-in_err-reference c =
    rw c.from_residual-in_err-reference.ensures
    (unreferred c.args.text.now _ (c.in_ok-word.word, c.in_ok-word.rest) (strip_prefix_char 36 c.args.text.now None c.in_default.ensures.cases (omega arith))
    (strip_prefix_char 123 c.args.text.now (Some c.in_ok-strip_prefix.field-0) c.in_ok-strip_prefix.ensures.cases (omega arith)) c.in_ok-word.ensures.cases
    c.in_err-reference.ensures)

pub returns : goal.returns
returns c =
    marks_group c.args.text.now _ (c.in_ok-word.word, c.in_ok-word.rest) _
    (strip_prefix_char 123 c.args.text.now (Some c.in_ok-strip_prefix.field-0) c.in_ok-strip_prefix.ensures.cases (omega arith)) c.in_ok-word.ensures.cases
    c.in_ok-reference.ensures
