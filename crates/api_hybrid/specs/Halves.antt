-- What searches for patterns are made of.
use Rattle.std.specs.Prelude.{◌≡◌, ℕ, ◌+◌, ◌≤◌, Bool, List, length}
use Rattle.rc_text.specs.Limits.{most_patterns}
use Rattle.rc_text.specs.declared.types.MatchKind.{MatchKind}
use Rattle.rc_program.specs.Program.{shown}
use Rattle.rc_program.specs.Sought.{Sought}
use Rattle.rc_dfa.specs.Automata.{machine_of}
use Rattle.rc_dfa.specs.Machine.{Machine, IsClassing}
use Rattle.rc_dfa.specs.Samples.{AreSamples}
use Rattle.rc_dfa.specs.declared.automaton.Direction.TheVariants.{Backwards, Forwards}
use Rattle.rc_lazy_dfa.specs.Stores.{minimum_of}
use Rattle.rc_lazy_dfa.specs.declared.lazy.Lazy.{Lazy}
use Rattle.rc_dfa_search.specs.Classes.{AreClassesOf}
use Rattle.rc_dfa_search.specs.Machines.{AreMachines}

-- They are searches for what is sought, for matches of the kind. `PatternID` has a number for each of the patterns.
pub record IsLazyFor (q : Sought) (kind : MatchKind) (lazy : Lazy) : Type 0 where
  pub machines : AreMachines (shown q.grouped q.patterns) q.terminator kind (machine_of lazy.automaton Forwards) (machine_of lazy.automaton Backwards)
  pub few : length q.patterns ≤ most_patterns

-- The least capacity for searches of what is sought, in bytes for each direction, by the classes of bytes that the program tells apart, or, unless
-- `byte_classes` is set, with each byte as a class of its own. No step tells bytes of one class apart.
-- It is by the longest list that states of the kind have forwards: backwards no more is needed.
pub record IsLeast (q : Sought) (kind : MatchKind) (byte_classes : Bool) (least : ℕ) : Type 0 where
  pub ahead : Machine
  pub behind : Machine
  pub machines : AreMachines (shown q.grouped q.patterns) q.terminator kind ahead behind
  pub classes : List ℕ
  pub are_classes : AreClassesOf byte_classes (shown q.grouped q.patterns) q.terminator classes
  pub samples : List ℕ
  pub are_samples : AreSamples classes samples
  pub classed_ahead : IsClassing ahead classes samples
  pub classed_behind : IsClassing behind classes samples
  pub least_is : least ≡ minimum_of (record { machine = ahead; classes = classes; width = length samples + 1 })
