use Rattle.std.proofs.lemmas.Result.{IfOk-weaker}
use Rattle.api_meta.proofs.Going.{late_half, may_half}
use Rattle.api_meta.proofs.regex.Regex.search_half.Goals as goal

pub returns-clause-may : goal.returns-clause-may
returns-clause-may g c =
    IfOk-weaker c.search_end_once.result _ _ (λ v h. may_half c.args.self.now c.args.input v h) c.search_end_once.ensures.may

pub returns-clause-found_by : goal.returns-clause-found_by
returns-clause-found_by g c late =
    IfOk-weaker c.search_end_once.result _ _ (λ v h. late_half c.args.self.now c.args.input v late h) c.search_end_once.ensures.may
