use Rattle.std.proofs.Common.{◌≡◌, ap, ◌∙◌}
use Rattle.std.proofs.lemmas.Result.{IfOk-weaker}
use Rattle.rc_program.specs.Program.{program}
use Rattle.rc_dfa.specs.Automata.{classes_of, machine_of, IsMadeOf}
use Rattle.rc_dfa.specs.declared.automaton.Direction.TheVariants.{Backwards, Forwards}
use Rattle.rc_dfa_search.specs.Classes.{AreClassesOf}
use Rattle.rc_dfa_search.specs.Machines.{AreMachines}
use Rattle.rc_utf8.specs.Bytes.{bytes_of}
use Rattle.rc_utf8.specs.Places.{places_of}
use Rattle.rc_dfa_search.proofs.BuildLemmas.{made_closed, made_rooted, made_entered, made, made_classes}
use Rattle.rc_dfa_search.proofs.build.automaton_of.Given.{Over}
use Rattle.rc_dfa_search.proofs.build.automaton_of.Goals as goal
use Rattle.rc_dfa_search.proofs.build.automaton_of.Goals.{In_ok-places}

are_places : (g : Over) (c : In_ok-places g) → places_of c.in_ok-places.places.items ≡ bytes_of (program g.hs)
are_places g c = c.in_ok-places.ensures ∙ ap bytes_of c.requires.0

pub new-requires-clause-closed : goal.new-requires-clause-closed
new-requires-clause-closed g c = made_closed g.hs (places_of c.in_ok-places.places.items) (are_places g (goal.at.new-requires-clause-closed g c).In_ok-places)

pub new-requires-clause-rooted : goal.new-requires-clause-rooted
new-requires-clause-rooted g c = made_rooted g.hs c.in_ok-places.places.items (are_places g (goal.at.new-requires-clause-rooted g c).In_ok-places)

pub new-requires-clause-entered : goal.new-requires-clause-entered
new-requires-clause-entered g c =
    made_entered g.hs c.in_ok-places.places.items c.in_ok-entries.entries.items (are_places g (goal.at.new-requires-clause-entered g c).In_ok-places) c.in_ok-entries.ensures

pub returns-clause-machines : goal.returns-clause-machines
returns-clause-machines g c =
    IfOk-weaker c.new.result (IsMadeOf (places_of c.in_ok-places.places.items) c.in_ok-entries.entries.items c.args.terminator c.args.kind c.args.byte_classes)
    (λ automaton. AreMachines g.hs c.args.terminator c.args.kind (machine_of automaton Forwards) (machine_of automaton Backwards))
    (λ a m. made g.hs c.args.terminator c.args.kind c.args.byte_classes (places_of c.in_ok-places.places.items) c.in_ok-entries.entries.items a
    (are_places g (goal.at.returns-clause-machines g c).In_ok-places) c.in_ok-entries.ensures m)
    c.new.ensures.made

pub returns-clause-classes : goal.returns-clause-classes
returns-clause-classes g c =
    IfOk-weaker c.new.result (IsMadeOf (places_of c.in_ok-places.places.items) c.in_ok-entries.entries.items c.args.terminator c.args.kind c.args.byte_classes)
    (λ automaton. AreClassesOf c.args.byte_classes g.hs c.args.terminator (classes_of automaton))
    (λ a m. made_classes g.hs c.args.terminator c.args.kind c.args.byte_classes (places_of c.in_ok-places.places.items) c.in_ok-entries.entries.items a
    (are_places g (goal.at.returns-clause-classes g c).In_ok-places) m)
    c.new.ensures.made
