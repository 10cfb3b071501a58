-- Only proofs use this file.
-- DFA choice: whether a DFA is built.
use Rattle.std.specs.Prelude.{◌≡◌, ◌⊎◌, ℕ, ◌<◌, false, List, length, Option, IsSome, IsSomeAnd}
use Rattle.rc_pattern.specs.Re.{Re}
use Rattle.rc_program.specs.Program.{program}
use Rattle.rc_utf8.specs.Bytes.{bytes_of}
use Rattle.rc_dfa.specs.Machine.{Machine, IsClassing}
use Rattle.rc_dense_dfa.specs.Makes.{IsRefused}
use Rattle.rc_dense_dfa.specs.declared.dense.Dense.{Dense}
use Rattle.rc_dense_dfa.specs.declared.error.TableError.TheVariants.{TooBig}
use Rattle.rc_dfa_search.specs.Machines.{AreMachines}
use Rattle.rc_pikevm_search.specs.Choices.{answering_for}
use Rattle.rc_pikevm_search.specs.declared.engine.Engine.{Engine}
use Rattle.rc_strategy.specs.declared.engines.Limits.{Limits}

-- The DFA may not be built: it is switched off, or the byte program has more places than the limit
-- allows.
abbrev pub AreOff : List Re → Limits → Type 0
AreOff hs limits = (limits.dfa ≡ false) ⊎ IsSomeAnd limits.state_limit (λ most. most < length (bytes_of (program hs)))

-- The lazy DFA over symbols may not be built: lazy DFAs are switched off, or those over symbols are.
abbrev pub AreSymbolsOff : Limits → Type 0
AreSymbolsOff limits = (limits.hybrid ≡ false) ⊎ (limits.unicode_words ≡ false)

-- No DFA serves: literals alone decide each answer.
abbrev pub NoneServe : Engine → Type 0
NoneServe e = IsSome (answering_for e.kind e.literals)

-- The DFA of the patterns may not be built: it is switched off, or none serves, or the byte program
-- has more places than the limit allows.
abbrev pub AreBarred : Engine → List Re → Limits → Type 0
AreBarred e hs limits =
    (limits.dfa ≡ false) ⊎ (NoneServe e ⊎ IsSomeAnd limits.state_limit (λ most. most < length (bytes_of (program hs))))

-- In one of the directions, some of the states that searches can reach, none of them twice, weigh
-- more than the limit.
pub record AreTooHeavy (e : Engine) (hs : List Re) (limits : Limits) : Type 0 where
  pub ahead : Machine
  pub behind : Machine
  pub machines : AreMachines hs e.program.terminator e.kind ahead behind
  pub classes : List ℕ
  pub samples : List ℕ
  pub classed_ahead : IsClassing ahead classes samples
  pub classed_behind : IsClassing behind classes samples
  pub heavy : IsRefused ahead (length samples) limits.size_limit TooBig ⊎ IsRefused behind (length samples) limits.size_limit TooBig

-- The lazy DFA is not built: it is switched off, or there is a DFA, or none serves.
abbrev pub IsLazyBarred : Engine → Limits → Option Dense → Type 0
IsLazyBarred e limits tables = (limits.hybrid ≡ false) ⊎ (IsSome tables ⊎ NoneServe e)
