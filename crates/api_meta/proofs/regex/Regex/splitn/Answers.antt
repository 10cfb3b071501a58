use Rattle.std.proofs.Common.{◌∙◌, ap}
use Rattle.rc_text.specs.Text.{high}
use Rattle.rc_program.specs.Matches.{pieces_left}
use Rattle.api_meta.specs.Left.{find_input, find_left}
use Rattle.api_meta.specs.Seeking.{Finding}
use Rattle.api_meta.proofs.Runs.{splitn_runs}
use Rattle.api_meta.proofs.regex.Regex.splitn.Goals as goal

pub returns-clause-left_by : goal.returns-clause-left_by
returns-clause-left_by g c =
    let m = c.in_ok-matches.matches in
    ap (λ (s : Finding). pieces_left c.args.limit 0 (high (find_input s)) (find_left s)) c.matches.view_is
    ∙ (ap (λ i. pieces_left c.args.limit 0 (high i) (find_left m)) c.in_ok-matches.ensures.input
    ∙ ap (pieces_left c.args.limit 0 (high c.args.input)) c.in_ok-matches.ensures.left_by)

pub returns-clause-runs : goal.returns-clause-runs
returns-clause-runs g c = splitn_runs
