use Rattle.rc_strategy.proofs.TableLemmas.{names_groups}
use Rattle.rc_strategy.proofs.engines.Engines.new.Goals as goal

pub invariant_of-result-clause-single : goal.invariant_of-result-clause-single
invariant_of-result-clause-single g c = c.in_ok-made.ensures.single

pub invariant_of-result-clause-numbered : goal.invariant_of-result-clause-numbered
invariant_of-result-clause-numbered g c = names_groups c.args.engine c.args.patterns g.hs c.requires.1.1.1.0 c.requires.1.1.1.1.0

pub invariant_of-result-clause-programmed : goal.invariant_of-result-clause-programmed
invariant_of-result-clause-programmed g c = ∣ (g.hs, c.requires.1.1.1.0) ∣₁

pub invariant_of-result-clause-worded : goal.invariant_of-result-clause-worded
invariant_of-result-clause-worded g c = ∣ (λ w is. c.requires.1.1.0 w (c.words_beside-words.ensures.same w is)) ∣₁

pub returns-clause-barred : goal.returns-clause-barred
returns-clause-barred g c = c.in_ok-made.ensures.made.barred

pub returns-clause-none : goal.returns-clause-none
returns-clause-none g c = c.in_ok-made.ensures.made.none

pub returns-clause-planned : goal.returns-clause-planned
returns-clause-planned g c = c.in_ok-made.ensures.made.planned

pub returns-clause-lazy_barred : goal.returns-clause-lazy_barred
returns-clause-lazy_barred g c = c.in_ok-made.ensures.made.lazy_barred

pub returns-clause-lazy_none : goal.returns-clause-lazy_none
returns-clause-lazy_none g c = c.in_ok-made.ensures.made.lazy_none

pub returns-clause-symbols_off : goal.returns-clause-symbols_off
returns-clause-symbols_off g c = c.in_ok-made.ensures.symbols.off

pub returns-clause-words : goal.returns-clause-words
returns-clause-words g c = c.words_beside-words.ensures.none
