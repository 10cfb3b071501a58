use Rattle.std.proofs.Common.{◌∙◌, ◌≤◌, ap, subst, sym}
use Rattle.rc_program.specs.Laws.{heaviness}
use Rattle.rc_program.specs.Program.{shown}
use Rattle.rc_program.specs.Sought.{Sought}
use Rattle.rc_dfa.specs.Automata.{classes_of, machine_of}
use Rattle.rc_dfa.specs.declared.automaton.Direction.TheVariants.{Backwards, Forwards}
use Rattle.rc_dfa.specs.Machine.{Machine}
use Rattle.rc_dfa_search.specs.Classes.{AreClassesOf}
use Rattle.rc_dfa_search.specs.Machines.{AreMachines}
use Rattle.api_dfa.specs.Makes.{IsTablesRefusal}
use Rattle.api_dfa.proofs.TableLemmas.{light_by, made_by, refused_by}
use Rattle.api_dfa.proofs.dfa.tables_of.Given.{Over}
use Rattle.api_dfa.proofs.dfa.tables_of.Goals as goal
use Rattle.api_dfa.proofs.dfa.tables_of.Goals.{In_ok-automaton}

-- the automaton is that of what is sought
of : (g : Over) (c : In_ok-automaton g) → AreMachines (shown g.q.grouped g.q.patterns) g.q.terminator c.args.kind
    (machine_of c.in_ok-automaton.automaton Forwards) (machine_of c.in_ok-automaton.automaton Backwards)
of g c =
    let a = c.in_ok-automaton.automaton in
    subst (λ t. AreMachines (shown g.q.grouped g.q.patterns) t c.args.kind (machine_of a Forwards) (machine_of a Backwards))
    (c.get_line_terminator-terminator.ensures ∙ sym (ap (λ (q : Sought). q.terminator) c.requires.0)) c.in_ok-automaton.ensures.machines

-- and its classes of bytes are those of what is sought
classed : (g : Over) (c : In_ok-automaton g) → AreClassesOf c.args.byte_classes (shown g.q.grouped g.q.patterns) g.q.terminator
    (classes_of c.in_ok-automaton.automaton)
classed g c =
    let a = c.in_ok-automaton.automaton in
    subst (λ t. AreClassesOf c.args.byte_classes (shown g.q.grouped g.q.patterns) t (classes_of a))
    (c.get_line_terminator-terminator.ensures ∙ sym (ap (λ (q : Sought). q.terminator) c.requires.0)) c.in_ok-automaton.ensures.classes

-- so it reads bytes
pub new-requires : goal.new-requires
new-requires g c = let of = c.in_ok-automaton.ensures.machines in ap (λ (m : Machine). m.alphabet) of.ahead

pub returns-in-Ok-clause-made : goal.returns-in-Ok-clause-made
returns-in-Ok-clause-made g c =
    made_by g.q c.args.kind c.in_ok-automaton.automaton (of g (goal.at.returns-in-Ok-clause-made g c).In_ok-automaton) c.in-Ok.tables c.in-Ok.ensures.halves
    (subst (λ places. heaviness places ≤ 2147483646) c.requires.1.0 c.requires.1.1)

pub returns-in-Ok-clause-light : goal.returns-in-Ok-clause-light
returns-in-Ok-clause-light g c =
    light_by g.q c.args.kind c.in_ok-automaton.automaton (of g (goal.at.returns-in-Ok-clause-light g c).In_ok-automaton) c.args.byte_classes
    (classed g (goal.at.returns-in-Ok-clause-light g c).In_ok-automaton) c.args.limit c.in-Ok.tables c.in-Ok.ensures.made

pub returns-clause-refused : goal.returns-clause-refused
returns-clause-refused g c =
    subst (IsTablesRefusal g.q c.args.kind c.args.byte_classes c.args.limit) (sym c.refusal_of.ensures)
    (refused_by g.q c.args.kind c.in_ok-automaton.automaton (of g (goal.at.returns-clause-refused g c).In_ok-automaton) c.args.byte_classes
    (classed g (goal.at.returns-clause-refused g c).In_ok-automaton) c.args.limit c.in-Err.error c.in-Err.ensures.refused)
