use Rattle.std.proofs.lemmas.Result.{IfOk-weaker}
use Rattle.api_meta.proofs.Going.{late_answer, leftmost_answer, may_answer}
use Rattle.api_meta.proofs.Preferred.{prefers}
use Rattle.api_meta.proofs.regex.Regex.find.Goals as goal

pub returns-clause-may : goal.returns-clause-may
returns-clause-may g c =
    IfOk-weaker c.search_once.result _ _ (λ v h. may_answer c.args.self.now c.args.input v h) c.search_once.ensures.may

pub returns-clause-found_by : goal.returns-clause-found_by
returns-clause-found_by g c late =
    IfOk-weaker c.search_once.result _ _ (λ v h. late_answer c.args.self.now c.args.input v late h) c.search_once.ensures.may

pub returns-clause-found : goal.returns-clause-found
returns-clause-found g c kind late =
    IfOk-weaker c.search_once.result _ _ (λ v h. leftmost_answer c.args.self.now c.args.input v kind late h) c.search_once.ensures.may

pub returns-clause-preferred : goal.returns-clause-preferred
returns-clause-preferred g c kind plain late =
    IfOk-weaker c.search_once.result _ _
    (λ v h. prefers c.args.self.now c.args.input kind plain v (late_answer c.args.self.now c.args.input v late h)) c.search_once.ensures.may
