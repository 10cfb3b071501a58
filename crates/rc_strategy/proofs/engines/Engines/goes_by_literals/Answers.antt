use Rattle.rc_strategy.proofs.LimitLemmas.{is_answered}
use Rattle.rc_strategy.proofs.engines.Engines.goes_by_literals.Goals as goal

pub returns : goal.returns
returns c = λ t.
    (is_answered _ c.literals_of.result c.is_some.ensures t c.literals_of.ensures.value, c.if-self.false)
