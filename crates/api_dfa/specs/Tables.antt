-- What the tables of patterns are made from, and what they weigh.
use Rattle.std.specs.Prelude.{◌≡◌, ℕ, ◌≤◌, ◌⊎◌, Bool, List, length, Option, Some}
use Rattle.rc_text.specs.Limits.{most_patterns}
use Rattle.rc_text.specs.declared.types.MatchKind.{MatchKind}
use Rattle.rc_program.specs.Program.{shown}
use Rattle.rc_program.specs.Sought.{Sought}
use Rattle.rc_dfa.specs.Machine.{Machine, IsClassing}
use Rattle.rc_dfa.specs.Samples.{AreSamples}
use Rattle.rc_dense_dfa.specs.Halves.{AreHalves}
use Rattle.rc_dense_dfa.specs.Makes.{IsMade, IsRefused}
use Rattle.rc_dense_dfa.specs.declared.dense.Dense.{Dense}
use Rattle.rc_dense_dfa.specs.declared.error.TableError.TheVariants.{TooBig}
use Rattle.rc_dfa_search.specs.Classes.{AreClassesOf}
use Rattle.rc_dfa_search.specs.Machines.{AreMachines}

-- The tables are those of what is sought, for matches of the kind. `PatternID` has a number for each of the patterns.
pub record AreTables (q : Sought) (kind : MatchKind) (tables : Dense) : Type 0 where
  pub ahead : Machine
  pub behind : Machine
  pub machines : AreMachines (shown q.grouped q.patterns) q.terminator kind ahead behind
  pub halves : AreHalves tables ahead behind
  pub few : length q.patterns ≤ most_patterns

-- From what tables of it are made: the machines, and so many classes of bytes. They are those that the program tells apart, or, unless `byte_classes`
-- is set, each byte is a class of its own. No step tells bytes of one class apart.
pub record AreSources (q : Sought) (kind : MatchKind) (byte_classes : Bool) (ahead behind : Machine) (count : ℕ) : Type 0 where
  pub machines : AreMachines (shown q.grouped q.patterns) q.terminator kind ahead behind
  pub classes : List ℕ
  pub are_classes : AreClassesOf byte_classes (shown q.grouped q.patterns) q.terminator classes
  pub samples : List ℕ
  pub are_samples : AreSamples classes samples
  pub classed_ahead : IsClassing ahead classes samples
  pub classed_behind : IsClassing behind classes samples
  pub counted : count ≡ length samples

-- The tables hold no state that can't be reached, and in each direction what holds the states weighs no more than the limit.
pub record AreLight (q : Sought) (kind : MatchKind) (byte_classes : Bool) (limit : Option ℕ) (tables : Dense) : Type 0 where
  pub ahead : Machine
  pub behind : Machine
  pub count : ℕ
  pub sources : AreSources q kind byte_classes ahead behind count
  pub forward : IsMade ahead count limit tables.forward
  pub reverse : IsMade behind count limit tables.reverse

-- In one of the directions what holds some of the states that can be reached weighs more than the limit.
pub record IsTooBig (q : Sought) (kind : MatchKind) (byte_classes : Bool) (limit : ℕ) : Type 0 where
  pub ahead : Machine
  pub behind : Machine
  pub count : ℕ
  pub sources : AreSources q kind byte_classes ahead behind count
  pub big : IsRefused ahead count (Some limit) TooBig ⊎ IsRefused behind count (Some limit) TooBig
