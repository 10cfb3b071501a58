use Rattle.std.proofs.Common.{◌∙◌, ap, arith}
use Rattle.rc_text.specs.Text.{high}
use Rattle.rc_program.specs.Matches.{pieces_from}
use Rattle.rc_program.proofs.PieceLemmas.{length-pieces_from}
use Rattle.api_meta.specs.Left.{find_input, find_left, left_in}
use Rattle.api_meta.specs.Seeking.{Finding}
use Rattle.api_meta.proofs.Going.{few_left}
use Rattle.api_meta.proofs.Runs.{split_runs}
use Rattle.api_meta.proofs.regex.Regex.split.Goals as goal

pub returns-clause-left_by : goal.returns-clause-left_by
returns-clause-left_by g c =
    let m = c.in_ok-matches.matches in
    ap (λ (s : Finding). pieces_from 0 (high (find_input s)) (find_left s)) c.matches.view_is
    ∙ (ap (λ i. pieces_from 0 (high i) (find_left m)) c.in_ok-matches.ensures.input
    ∙ ap (pieces_from 0 (high c.args.input)) c.in_ok-matches.ensures.left_by)

pub returns-clause-few : goal.returns-clause-few
returns-clause-few g c =
    let m = c.matches.inside in
    let few = few_left m.seeker.regex m.input m.seeker.last m.seeker.is_done in
    let pieces = length-pieces_from 0 (high m.input) (left_in m.seeker m.input) in
    omega (arith, few, pieces, ap high (ap find_input c.matches.view_is ∙ c.in_ok-matches.ensures.input))

pub returns-clause-short : goal.returns-clause-short
returns-clause-short g c = λ small.
    let m = c.matches.inside in
    let few = few_left m.seeker.regex m.input m.seeker.last m.seeker.is_done in
    let pieces = length-pieces_from 0 (high m.input) (left_in m.seeker m.input) in
    omega (arith, small, few, pieces, ap high (ap find_input c.matches.view_is ∙ c.in_ok-matches.ensures.input))

pub returns-clause-runs : goal.returns-clause-runs
returns-clause-runs g c = split_runs
