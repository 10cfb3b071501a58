-- Caches: what they are made for, and what searches leave of them.
use Rattle.std.specs.Prelude.{◌≡◌, ℕ, List, Option, Some, None, IfSome}
use Rattle.rc_program.specs.Program.{Place}
use Rattle.rc_pikevm.specs.Caches.{IsCacheFor}
use Rattle.rc_dfa.specs.Machine.{symbols}
use Rattle.rc_lazy_dfa.specs.Caches.{IsCacheOf, usage_of}
use Rattle.rc_lazy_dfa.specs.declared.lazy.Lazy.{Lazy}
use Rattle.rc_lazy_dfa.specs.declared.lazy.Cache as made
use Rattle.rc_pikevm_search.specs.Engine.{IsEngineCache, IsSameCache}
use Rattle.rc_strategy.specs.Plans.{LazyPlan, ServesLazy, ServesOver}
use Rattle.rc_strategy.specs.declared.cache.Cache.{Cache}
use Rattle.rc_strategy.specs.declared.engines.Engines.{Engines}

-- If there are both, the cache was made for the lazy DFA.
abbrev pub IsCacheOfBoth : Option Lazy → Option made.Cache → Type 0
IsCacheOfBoth None c = Unit {0}
IsCacheOfBoth (Some l) None = Unit {0}
IsCacheOfBoth (Some l) (Some c) = IsCacheOf l c

-- The cache was made for searches by these engines with so many slots.
pub record IsCacheIn (e : Engines) (slots : ℕ) (c : Cache) : Type 0 where
  pub pass : IsEngineCache e.engine slots c.pass
  pub lazy : IsCacheOfBoth e.lazy c.lazy
  pub symbols : IsCacheOfBoth e.symbols c.symbols

-- The second cache replaces the first: it was made for the lazy DFA, or, without one, is as it was.
abbrev pub KeepsStates : Option Lazy → Option made.Cache → Option made.Cache → Type 0
KeepsStates None c d = d ≡ c
KeepsStates (Some l) None d = d ≡ None
KeepsStates (Some l) (Some c) None = ⊥
KeepsStates (Some l) (Some c) (Some d) = IsCacheOf l d

-- The cache is made for what it was made for before.
pub record IsSameCacheIn (e : Engines) (c d : Cache) : Type 0 where
  pub pass : IsSameCache c.pass d.pass
  pub lazy : KeepsStates e.lazy c.lazy d.lazy
  pub symbols : KeepsStates e.symbols c.symbols d.symbols

-- The cache was made for programs of these places, rows of so many columns, and any lazy DFA that is
-- built by the plan.
pub record IsCacheBy (places : List Place) (columns : ℕ) (plan : LazyPlan) (c : Cache) : Type 0 where
  pub pass : IsCacheFor places columns c.pass
  pub lazy : IfSome c.lazy (ServesLazy plan)
  pub symbols : IfSome c.symbols (ServesOver symbols plan)

-- How many bytes the states take that were reached, in both directions.
abbrev pub states_taken : Option made.Cache → ℕ
states_taken None = 0
states_taken (Some c) = usage_of c
