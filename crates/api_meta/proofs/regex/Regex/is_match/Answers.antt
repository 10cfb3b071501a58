use Rattle.std.proofs.lemmas.Result.{IfOk-weaker}
use Rattle.api_meta.proofs.Going.{is_matched}
use Rattle.api_meta.proofs.regex.Regex.is_match.Goals as goal

pub returns : goal.returns
returns g c =
    record { found_by = IfOk-weaker c.is_match_once.result _ _ (λ b e. is_matched c.args.self.now c.args.input b e) c.is_match_once.ensures.found }
