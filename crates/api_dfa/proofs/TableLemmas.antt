-- What the tables of an automaton of patterns are to what is sought.
use Rattle.std.proofs.Common.{ℕ, ◌≤◌, ◌⊎◌, Bool, List, length, Option, Some, None, refl, arith}
use Rattle.rc_text.specs.declared.types.MatchKind.{MatchKind}
use Rattle.rc_pattern.specs.Re.{Re}
use Rattle.rc_program.specs.Laws.{heaviness}
use Rattle.rc_program.specs.Program.{program, shown}
use Rattle.rc_program.specs.Sought.{Sought}
use Rattle.rc_program.proofs.GroupLemmas.{length-shown, shown_lighter}
use Rattle.rc_program.proofs.WeightLemmas.{program_weighs}
use Rattle.rc_dfa.specs.Automata.{machine_of, classes_of, samples_of}
use Rattle.rc_dfa.specs.declared.automaton.Automaton.{Automaton}
use Rattle.rc_dfa.specs.declared.automaton.Direction.TheVariants.{Backwards, Forwards}
use Rattle.rc_dfa.proofs.AutomatonLemmas.{is_classing}
use Rattle.rc_dense_dfa.specs.Halves.{AreHalves, AreTablesOf}
use Rattle.rc_dense_dfa.specs.Makes.{IsRefused}
use Rattle.rc_dense_dfa.specs.declared.dense.Dense.{Dense}
use Rattle.rc_dense_dfa.specs.declared.error.TableError.{TableError}
use Rattle.rc_dense_dfa.specs.declared.error.TableError.TheVariants.{Memory, TooBig}
use Rattle.rc_build.specs.Refusals.{IsBuildable}
use Rattle.rc_build.specs.declared.limit.Limit.{Limit}
use Rattle.rc_build.proofs.Runnable.{bounded}
use Rattle.rc_dfa_search.specs.Classes.{AreClassesOf}
use Rattle.rc_dfa_search.specs.Machines.{AreMachines}
use Rattle.rc_dfa_search.proofs.PatternLemmas.{few_by_weight}
use Rattle.api_dfa.specs.Makes.{IsTablesRefusal, refusal_of}
use Rattle.api_dfa.specs.Tables.{AreLight, AreSources, AreTables, IsTooBig}

-- the program of patterns that can be built is light
pub program_light : (limit : Limit) (grouped : Bool) (hs : List Re) → IsBuildable limit hs → heaviness (program (shown grouped hs)) ≤ 2147483646
program_light limit grouped hs ok =
    let weighs = program_weighs (shown grouped hs) (bounded grouped hs ok.well_formed) in
    let lighter = shown_lighter grouped hs in
    let placed = ok.placed in
    omega (arith, weighs, lighter, placed)

module _ (q : Sought) (kind : MatchKind) (a : Automaton) (of : AreMachines (shown q.grouped q.patterns) q.terminator kind (machine_of a Forwards) (machine_of a Backwards)) where
  pub made_by : (d : Dense) → AreHalves d (machine_of a Forwards) (machine_of a Backwards) → heaviness (program (shown q.grouped q.patterns)) ≤ 2147483646 → AreTables q kind d
  made_by d h light = record {
    ahead = machine_of a Forwards;
    behind = machine_of a Backwards;
    machines = of;
    halves = h;
    few =
        let few = few_by_weight (shown q.grouped q.patterns) light in
        let same = length-shown q.grouped q.patterns in
        omega (arith, few, same);
  }

  module _ (byte_classes : Bool) (classed : AreClassesOf byte_classes (shown q.grouped q.patterns) q.terminator (classes_of a)) where
    sources : AreSources q kind byte_classes (machine_of a Forwards) (machine_of a Backwards) (length (samples_of a))
    sources = record {
      machines = of;
      classes = classes_of a;
      are_classes = classed;
      samples = samples_of a;
      are_samples = a.sampled;
      classed_ahead = is_classing a Forwards;
      classed_behind = is_classing a Backwards;
      counted = refl;
    }

    pub light_by : (limit : Option ℕ) (d : Dense) → AreTablesOf a limit d → AreLight q kind byte_classes limit d
    light_by limit d h = record {
      ahead = machine_of a Forwards;
      behind = machine_of a Backwards;
      count = length (samples_of a);
      sources = sources;
      forward = h.forward;
      reverse = h.reverse;
    }

    too_big : (n : ℕ) → IsRefused (machine_of a Forwards) (length (samples_of a)) (Some n) TooBig
        ⊎ IsRefused (machine_of a Backwards) (length (samples_of a)) (Some n) TooBig → IsTooBig q kind byte_classes n
    too_big n h = record {
      ahead = machine_of a Forwards;
      behind = machine_of a Backwards;
      count = length (samples_of a);
      sources = sources;
      big = h;
    }

    pub refused_by : (limit : Option ℕ) (e : TableError) → IsRefused (machine_of a Forwards) (length (samples_of a)) limit e
        ⊎ IsRefused (machine_of a Backwards) (length (samples_of a)) limit e → IsTablesRefusal q kind byte_classes limit (refusal_of e limit)
    refused_by limit Memory h = tt
    refused_by None TooBig h = tt
    refused_by (Some n) TooBig h = (refl, too_big n h)
