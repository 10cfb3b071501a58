-- Only proofs use this file.
-- Meta strategy: which DFA a search uses.
use Rattle.std.specs.Prelude.{◌≡◌, ◌⊎◌, Bool, true, false, Some, None}
use Rattle.rc_strategy.specs.declared.engines.Engines.{Engines}
use Rattle.rc_strategy.specs.declared.route.TableChoice.{TableChoice}
use Rattle.rc_strategy.specs.declared.route.TableChoice.TheVariants.{AllStates, MetStates, NoTables}

-- The facts on which each choice of a DFA relies, if a cache has the lazy DFA's states or not.
abbrev pub GoesBy : Engines → Bool → TableChoice → Type 0
-- There is a DFA.
GoesBy e has_states (AllStates d) = e.tables ≡ Some d.now
-- There is none, but a lazy DFA, and a cache has its states.
GoesBy e has_states (MetStates l) = (e.tables ≡ None) × (e.lazy ≡ Some l.now) × (has_states ≡ true)
-- There is no DFA, and either no lazy DFA or no cache with its states.
GoesBy e has_states NoTables = (e.tables ≡ None) × ((e.lazy ≡ None) ⊎ (has_states ≡ false))
