use Rattle.std.proofs.Common.{sym, subst}
use Rattle.std.proofs.lemmas.Result.{IfOk-weaker}
use Rattle.rc_text.specs.declared.types.MatchKind.TheVariants.{All as all_matches}
use Rattle.rc_utf8.specs.Places.{places_of}
use Rattle.rc_determinize.specs.Places.{state_of}
use Rattle.rc_dfa.specs.Machine.{BeginsBeside}
use Rattle.rc_dfa.specs.Automata.{machine_of}
use Rattle.rc_dfa.specs.declared.automaton.Direction.TheVariants.{Forwards}
use Rattle.rc_dfa.proofs.AutomatonLemmas.{asked_same, begin_same}
use Rattle.rc_dfa.proofs.automaton.Automaton.begin_by.Goals as goal

pub begin_forwards-requires-in-Overlapping : goal.begin_forwards-requires-in-Overlapping
begin_forwards-requires-in-Overlapping c = asked_same c.args.self.now c.args.direction Forwards c.args.anchored c.requires

pub returns-in-Overlapping : goal.returns-in-Overlapping
returns-in-Overlapping c =
    let a = c.args.self.now in
    IfOk-weaker c.begin_forwards-in-Overlapping.result _ _
    (λ x h. subst (λ d. BeginsBeside (machine_of a d) c.args.anchored c.args.seen (state_of c.begin_forwards-in-Overlapping.new.to)) (sym c.in-Overlapping.is)
    (begin_same a.kind all_matches (places_of a.places.items) a.entries.items c.args.seen c.args.anchored (state_of c.begin_forwards-in-Overlapping.new.to) h))
    c.begin_forwards-in-Overlapping.ensures
