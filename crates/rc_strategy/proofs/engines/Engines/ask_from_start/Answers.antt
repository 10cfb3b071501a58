use Rattle.std.proofs.Common.{◌≡◌, IfOk, subst, sym}
use Rattle.rc_text.specs.Text.{low}
use Rattle.std.specs.Prelude.{IfSome}
use Rattle.std.proofs.lemmas.Result.{IfOk-weaker}
use Rattle.rc_text.specs.Bounds.{IsWithinBounds}
use Rattle.rc_pikevm_search.specs.Engine.{engine_search}
use Rattle.rc_strategy.specs.Questions.{may_stop}
use Rattle.rc_strategy.proofs.HeldLemmas.{start_may_ok}
use Rattle.rc_strategy.proofs.KeptLemmas.{whole_found}
use Rattle.rc_strategy.proofs.QuestionLemmas.{tables_may, whole_replies}
use Rattle.rc_strategy.proofs.engines.Engines.ask_from_start.Goals as goal

pub returns-clause-reply : goal.returns-clause-reply
returns-clause-reply g c =
    let e = c.args.self.now in
    let q = c.args.question in
    IfOk-weaker c.find_between-found.result _ _ (λ o h. whole_replies q e.engine.kind (engine_search e.engine c.args.input.now) o h)
    (start_may_ok e.engine e.spans c.args.input.now e.bound (c.requires.free, c.requires.begins) c.set_anchored.new.self (may_stop q) c.find_between-found.result
    c.set_anchored.ensures
    (tables_may e.engine e.patterns c.set_anchored.new.self c.requires.own q c.aim_for-aim.result c.aim_for-aim.ensures c.find_between-found.result
    (λ hs same h. whole_found c.aim_for-aim.result hs e.engine.program.terminator c.set_anchored.new.self c.args.bounds.low
    (subst (λ s. c.args.bounds.low ≡ low s) (sym c.set_anchored.ensures) c.requires.bounds.0)
    c.find_between-found.result (c.find_between-found.ensures.found hs e.engine.program.terminator h))))

pub returns-clause-within : goal.returns-clause-within
returns-clause-within g c =
    subst (λ s. IfOk c.find_between-found.result (λ found. IfSome found (IsWithinBounds s))) c.set_anchored.ensures c.find_between-found.ensures.within
