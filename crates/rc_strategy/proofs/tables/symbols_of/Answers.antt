use Rattle.std.proofs.Common.{◌≡◌, ◌∙◌, ⊎_elim, ap, false, not, sym, true≢false}
use Rattle.rc_strategy.proofs.LimitLemmas.{no_symbols, symbols_so}
use Rattle.rc_strategy.proofs.tables.symbols_of.Goals as goal

pub returns-then-not-limits : goal.returns-then-not-limits
returns-then-not-limits g c = no_symbols c.args.engine.now c.args.patterns g.hs c.args.limits

pub returns : goal.returns
returns g c =
    symbols_so c.args.engine.now g.hs c.in_ok-own.own c.in_ok-own.ensures.machines c.args.patterns c.args.limits c.in_ok-own.ensures.classes
    c.requires.0 c.requires.1.0 c.requires.1.1 c.over_symbols.result c.over_symbols.ensures c.lazy_of.result c.lazy_of.ensures.made
    (⊎_elim c.lazy_of.ensures.off (λ (never : c.args.limits.unicode_words ≡ false). absurd (true≢false (sym (ap not never) ∙ c.if-not-limits.false))))
