-- Only proofs use this file.
-- DFA choice: which DFAs are built.
use Rattle.std.specs.Prelude.{◌≡◌, ◌⊎◌, ℕ, List, Option, None, IfSome}
use Rattle.rc_pattern.specs.Re.{Re}
use Rattle.rc_dfa.specs.Machine.{bytes, symbols}
use Rattle.rc_lazy_dfa.specs.declared.lazy.Lazy.{Lazy}
use Rattle.rc_dense_dfa.specs.declared.dense.Dense.{Dense}
use Rattle.rc_pikevm_search.specs.declared.engine.Engine.{Engine}
use Rattle.rc_strategy.specs.Limits.{AreBarred, AreSymbolsOff, AreTooHeavy, IsLazyBarred}
use Rattle.rc_strategy.specs.Plans.{IsLazyFor, IsLazyOver, IsShortFor, plan_of}
use Rattle.rc_strategy.specs.Tables.{MayBeLazyFor, MayBeLazyOver, MayBeTablesFor, MayBeTablesOver}
use Rattle.rc_strategy.specs.declared.engines.Limits.{Limits}

-- They are those of the engine's patterns, and none is missing unless the limits say so.
pub record AreMade (e : Engine) (patterns : ℕ) (hs : List Re) (limits : Limits) (dense : Option Dense) (met : Option Lazy) : Type 0 where
  pub fit : MayBeTablesFor e patterns dense
  pub read : MayBeTablesOver bytes e patterns dense
  pub barred : AreBarred e hs limits → dense ≡ None
  pub none : dense ≡ None → AreBarred e hs limits ⊎ AreTooHeavy e hs limits
  pub lazy_fit : MayBeLazyFor e patterns met
  pub lazy_read : MayBeLazyOver bytes e patterns met
  pub planned : IfSome met (IsLazyFor (plan_of e hs limits))
  pub lazy_barred : IsLazyBarred e limits dense → met ≡ None
  pub lazy_none : met ≡ None → IsLazyBarred e limits dense ⊎ IsShortFor (plan_of e hs limits)

-- It is that of the engine's patterns, and reads symbols. There is none if the limits switch it off.
pub record AreOverSymbols (e : Engine) (patterns : ℕ) (hs : List Re) (limits : Limits) (met : Option Lazy) : Type 0 where
  pub fit : MayBeLazyFor e patterns met
  pub read : MayBeLazyOver symbols e patterns met
  pub planned : IfSome met (IsLazyOver symbols (plan_of e hs limits))
  pub off : AreSymbolsOff limits → met ≡ None
