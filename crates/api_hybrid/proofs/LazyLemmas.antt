-- What searches by an automaton of patterns are to what is sought.
use Rattle.std.proofs.Common.{◌+◌, ◌≡◌, ℕ, ◌≤◌, Bool, sym, subst, ap, arith}
use Rattle.rc_text.specs.declared.types.MatchKind.{MatchKind}
use Rattle.rc_program.specs.Laws.{heaviness}
use Rattle.rc_program.specs.Program.{program, shown}
use Rattle.rc_program.specs.Sought.{Sought}
use Rattle.rc_program.proofs.GroupLemmas.{length-shown}
use Rattle.rc_dfa.specs.Automata.{machine_of, classes_of, samples_of}
use Rattle.rc_dfa.specs.declared.automaton.Automaton.{Automaton}
use Rattle.rc_dfa.specs.declared.automaton.Direction.TheVariants.{Backwards, Forwards}
use Rattle.rc_dfa.specs.Machine.{Machine}
use Rattle.rc_dfa.proofs.AutomatonLemmas.{is_classing, plain_columns}
use Rattle.rc_lazy_dfa.specs.Caches.{IsLazyOf, IsNone, least_of}
use Rattle.rc_lazy_dfa.specs.Stores.{minimum_of}
use Rattle.rc_lazy_dfa.specs.declared.lazy.Lazy.{Lazy}
use Rattle.rc_lazy_dfa.specs.declared.error.LazyError.{LazyError}
use Rattle.rc_lazy_dfa.specs.declared.error.LazyError.TheVariants.{Memory, TooSmall}
use Rattle.rc_dfa_search.specs.Classes.{AreClassesOf}
use Rattle.rc_dfa_search.specs.Machines.{AreMachines}
use Rattle.rc_dfa_search.proofs.PatternLemmas.{few_by_weight}
use Rattle.api_hybrid.specs.Halves.{IsLazyFor, IsLeast}
use Rattle.api_hybrid.specs.Makes.{HasCapacity, IsLazyRefusal, refusal_of}

module _ (q : Sought) (kind : MatchKind) (a : Automaton) (of : AreMachines (shown q.grouped q.patterns) q.terminator kind (machine_of a Forwards) (machine_of a Backwards)) where
  pub made_by : (capacity : ℕ) (l : Lazy) → IsLazyOf a capacity l → heaviness (program (shown q.grouped q.patterns)) ≤ 2147483646 → IsLazyFor q kind l
  made_by capacity l h light = record {
    machines = subst (λ b. AreMachines (shown q.grouped q.patterns) q.terminator kind (machine_of b Forwards) (machine_of b Backwards)) (sym h.automaton_is) of;
    few =
        let few = few_by_weight (shown q.grouped q.patterns) light in
        let same = length-shown q.grouped q.patterns in
        omega (arith, few, same);
  }

  module _ (byte_classes : Bool) (classed : AreClassesOf byte_classes (shown q.grouped q.patterns) q.terminator (classes_of a)) where
    least_by : IsLeast q kind byte_classes (least_of a)
    least_by = record {
      ahead = machine_of a Forwards;
      behind = machine_of a Backwards;
      machines = of;
      classes = classes_of a;
      are_classes = classed;
      samples = samples_of a;
      are_samples = a.sampled;
      classed_ahead = is_classing a Forwards;
      classed_behind = is_classing a Backwards;
      least_is =
          ap (λ w. minimum_of (record { machine = machine_of a Forwards; classes = classes_of a; width = w + 1 }))
          (plain_columns a (ap (λ (m : Machine). m.alphabet) of.ahead));
    }

    pub roomy_by : (capacity : ℕ) (l : Lazy) → IsLazyOf a capacity l → HasCapacity q kind byte_classes capacity l
    roomy_by capacity l h = record {
      capacity_is = h.capacity_is;
      least = subst (λ b. IsLeast q kind byte_classes (least_of b)) (sym h.automaton_is) least_by;
      serves =
          let least : l.minimum ≡ least_of l.automaton = l.least in
          let roomy : l.minimum ≤ l.capacity = l.roomy in
          let same = h.capacity_is in
          omega (arith, least, roomy, same);
    }

    pub refused_by : (capacity : ℕ) (e : LazyError) → IsNone a capacity e → IsLazyRefusal q kind byte_classes capacity (refusal_of e)
    refused_by capacity Memory h = tt
    refused_by capacity (TooSmall minimum given) h =
        (subst (IsLeast q kind byte_classes) (sym h.0) least_by, h.1, h.2)
