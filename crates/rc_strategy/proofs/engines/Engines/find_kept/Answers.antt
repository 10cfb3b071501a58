use Rattle.std.proofs.Common.{◌≡◌, IfOk, IfSome, false, ap, subst, sym, ◌∙◌}
use Rattle.rc_program.specs.Kinds.{answer_by}
use Rattle.rc_dense_dfa.specs.Halves.{AreHalves}
use Rattle.rc_dense_dfa.specs.Searches.{view_of}
use Rattle.rc_dense_dfa.specs.declared.dense.NoCache.{NoCache}
use Rattle.rc_table_search.specs.Memos.{IsMemo}
use Rattle.rc_dfa_search.specs.Aims.{is_early}
use Rattle.rc_pikevm_search.specs.Engine.{engine_search}
use Rattle.rc_strategy.specs.Tables.{AreHalvesFor}
use Rattle.rc_strategy.specs.declared.question.Question.TheVariants.{Match}
use Rattle.rc_strategy.proofs.KeptLemmas.{whole_found}
use Rattle.rc_strategy.proofs.ListLemmas.{by_list}
use Rattle.rc_strategy.proofs.QuestionLemmas.{tables_may}
use Rattle.rc_strategy.proofs.engines.Engines.find_kept.Goals as goal

pub find_again-told-requires-clause-memo : goal.find_again-told-requires-clause-memo
find_again-told-requires-clause-memo g c =
    let t = c.args.memo.now in
    let k : NoCache = record {} in
    let Is = IsMemo (view_of c.args.tables.now false) k c.args.input.now in
    subst (λ b. Is c.args.bounds.high b t.memo) (sym (ap is_early c.aim-aim.ensures))
    (subst (λ n. Is n false t.memo) (sym c.requires.bounds.1) (by_list c.args.self.now c.args.tables.now c.args.input.now t c.requires.tables c.requires.kept c.requires.memo k))

pub returns-in_default-found-clause-found : goal.returns-in_default-found-clause-found
returns-in_default-found-clause-found g c =
    let e = c.args.self.now in
    let own = subst (λ o. ∥ IfSome o (λ d. AreHalvesFor e.engine e.patterns (AreHalves d)) ∥₁) c.requires.tables e.fit in
    sym c.in_default-found.is
    ∙ subst (λ r. IfOk r (λ o. o ≡ answer_by e.engine.kind (engine_search e.engine c.args.input.now))) c.in-Ok.is
    (tables_may e.engine e.patterns c.args.input.now own Match c.aim-aim.result c.aim-aim.ensures c.find_again-told.result
    (λ hs same h. whole_found c.aim-aim.result hs e.engine.program.terminator c.args.input.now c.args.bounds.low c.requires.bounds.0 c.find_again-told.result
    (c.find_again-told.ensures.found hs e.engine.program.terminator h)))

pub returns-clause-found : goal.returns-clause-found
returns-clause-found g c =
    let e = c.args.self.now in
    let own = subst (λ o. ∥ IfSome o (λ d. AreHalvesFor e.engine e.patterns (AreHalves d)) ∥₁) c.requires.tables e.fit in
    sym c.in-Some.is
    ∙ subst (λ r. IfOk r (λ o. o ≡ answer_by e.engine.kind (engine_search e.engine c.args.input.now))) c.in-Ok.is
    (tables_may e.engine e.patterns c.args.input.now own Match c.aim-aim.result c.aim-aim.ensures c.find_again-told.result
    (λ hs same h. whole_found c.aim-aim.result hs e.engine.program.terminator c.args.input.now c.args.bounds.low c.requires.bounds.0 c.find_again-told.result
    (c.find_again-told.ensures.found hs e.engine.program.terminator h)))
