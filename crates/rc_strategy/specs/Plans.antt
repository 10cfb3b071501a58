-- Lazy DFA: what it is built from.
use Rattle.std.specs.Prelude.{◌≡◌, ℕ, ◌+◌, ◌<◌, Bool, List, length}
use Rattle.rc_pattern.specs.Re.{Re}
use Rattle.rc_text.specs.declared.types.MatchKind.{MatchKind}
use Rattle.rc_dfa.specs.declared.automaton.Direction.TheVariants.{Backwards, Forwards}
use Rattle.rc_dfa.specs.Automata.{machine_of, classes_of}
use Rattle.rc_dfa.specs.Machine.{Alphabet, bytes, Machine}
use Rattle.rc_dfa.specs.Samples.{AreSamples}
use Rattle.rc_lazy_dfa.specs.Caches.{IsCacheOf}
use Rattle.rc_lazy_dfa.specs.Stores.{minimum_of}
use Rattle.rc_lazy_dfa.specs.declared.lazy.Lazy.{Lazy}
use Rattle.rc_lazy_dfa.specs.declared.lazy.Cache as made
use Rattle.rc_dfa_search.specs.Classes.{AreClassesOf}
use Rattle.rc_dfa_search.specs.Machines.{AreMachines, AreMachinesOver}
use Rattle.rc_pikevm_search.specs.declared.engine.Engine.{Engine}
use Rattle.rc_strategy.specs.declared.engines.Limits.{Limits}

-- The patterns, the byte that ends lines, the kind of match, whether bytes that no step tells apart
-- are one class, and how many bytes the states of each direction may take.
pub record LazyPlan : Type 0 where
  pub patterns : List Re
  pub terminator : ℕ
  pub kind : MatchKind
  pub byte_classes : Bool
  pub capacity : ℕ

-- The plan by which the lazy DFA of an engine's patterns is built.
abbrev pub plan_of : Engine → List Re → Limits → LazyPlan
plan_of e hs limits = record {
  patterns = hs;
  terminator = e.program.terminator;
  kind = e.kind;
  byte_classes = limits.byte_classes;
  capacity = limits.capacity;
}

-- The lazy DFA was built by the plan, and reads this.
pub record IsLazyOver (alphabet : Alphabet) (plan : LazyPlan) (l : Lazy) : Type 0 where
  pub machines : AreMachinesOver alphabet plan.patterns plan.terminator plan.kind (machine_of l.automaton Forwards) (machine_of l.automaton Backwards)
  pub classes : AreClassesOf plan.byte_classes plan.patterns plan.terminator (classes_of l.automaton)
  pub capacity_is : l.capacity ≡ plan.capacity

-- The lazy DFA that reads bytes.
abbrev pub IsLazyFor : LazyPlan → Lazy → Type 0
IsLazyFor = IsLazyOver bytes

-- The cache was made for any lazy DFA that is built by the plan, and reads this.
abbrev pub ServesOver : Alphabet → LazyPlan → made.Cache → Type 0
ServesOver alphabet plan c = (l : Lazy) → ∥ IsLazyOver alphabet plan l ∥₁ → IsCacheOf l c

abbrev pub ServesLazy : LazyPlan → made.Cache → Type 0
ServesLazy = ServesOver bytes

-- The least capacity that suffices is more than the plan's.
pub record IsShortFor (plan : LazyPlan) : Type 0 where
  pub ahead : Machine
  pub behind : Machine
  pub machines : AreMachines plan.patterns plan.terminator plan.kind ahead behind
  pub classes : List ℕ
  pub are_classes : AreClassesOf plan.byte_classes plan.patterns plan.terminator classes
  pub samples : List ℕ
  pub are_samples : AreSamples classes samples
  pub short : plan.capacity < minimum_of (record { machine = ahead; classes = classes; width = length samples + 1 })
