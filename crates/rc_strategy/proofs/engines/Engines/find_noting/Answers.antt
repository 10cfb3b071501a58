use Rattle.std.proofs.Common.{IfSome, subst}
use Rattle.rc_dense_dfa.specs.Halves.{AreHalves}
use Rattle.rc_strategy.specs.Tables.{AreHalvesFor}
use Rattle.rc_strategy.proofs.ListLemmas.{list_bare}
use Rattle.rc_strategy.proofs.engines.Engines.find_noting.Goals as goal

pub settle_forwards-told-requires-clause-own : goal.settle_forwards-told-requires-clause-own
settle_forwards-told-requires-clause-own g c =
    let e = c.args.self.now in
    subst (λ o. ∥ IfSome o (λ d. AreHalvesFor e.engine e.patterns (AreHalves d)) ∥₁) c.requires.tables e.fit

pub returns-clause-memo : goal.returns-clause-memo
returns-clause-memo g c = list_bare c.args.self.now c.settle_forwards-told.new.input c.note.new.self c.note.ensures
