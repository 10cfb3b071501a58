use Rattle.std.proofs.Common.{sym, ◌∙◌}
use Rattle.rc_strategy.proofs.LimitLemmas.{answered_so, dense_so, is_answered, lazy_so, no_symbols, not_answered}
use Rattle.rc_strategy.proofs.tables.tables_of.Goals as goal

pub returns-then-is_some-clause-made : goal.returns-then-is_some-clause-made
returns-then-is_some-clause-made g c =
    answered_so c.args.engine.now c.args.patterns g.hs c.args.limits
    (is_answered _ c.literals_of.result c.is_some.ensures c.if-is_some.true c.literals_of.ensures.value)

pub returns-then-is_some-clause-symbols : goal.returns-then-is_some-clause-symbols
returns-then-is_some-clause-symbols g c = no_symbols c.args.engine.now c.args.patterns g.hs c.args.limits

pub returns-then-is_some-2-clause-made : goal.returns-then-is_some-2-clause-made
returns-then-is_some-2-clause-made g c =
    dense_so c.args.engine.now c.args.patterns g.hs c.args.limits c.in_ok-dense.dense
    (not_answered _ c.literals_of.result c.is_some.ensures c.if-is_some.false c.literals_of.ensures.value)
    c.in_ok-dense.ensures.fit c.in_ok-dense.ensures.read c.in_ok-dense.ensures.off c.in_ok-dense.ensures.none
    (sym c.is_some-2.ensures ∙ c.if-is_some-2.true)

pub returns-clause-made : goal.returns-clause-made
returns-clause-made g c =
    lazy_so c.args.engine.now c.args.patterns g.hs c.args.limits c.in_ok-dense.dense
    (not_answered _ c.literals_of.result c.is_some.ensures c.if-is_some.false c.literals_of.ensures.value)
    c.in_ok-dense.ensures.fit c.in_ok-dense.ensures.read c.in_ok-dense.ensures.off c.in_ok-dense.ensures.none
    c.in_ok-automaton.automaton c.in_ok-automaton.ensures.machines
    c.in_ok-automaton.ensures.classes c.requires.0 c.requires.1.0 c.requires.1.1 (sym c.is_some-2.ensures ∙ c.if-is_some-2.false) c.lazy_of-lazy.result c.lazy_of-lazy.ensures.made c.lazy_of-lazy.ensures.off
    c.lazy_of-lazy.ensures.none
