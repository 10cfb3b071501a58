use Rattle.std.proofs.Common.{◌≡◌, ◌∙◌, false, ap, subst, sym, arith}
use Rattle.rc_program.specs.Program.{place_at}
use Rattle.rc_program.specs.Answer.{pattern_at}
use Rattle.rc_program.proofs.WayLemmas.{past_places}
use Rattle.rc_dfa.specs.Automata.{machine_of}
use Rattle.rc_dfa.specs.declared.automaton.Direction.TheVariants.{Forwards}
use Rattle.rc_table_search.specs.Views.{IsPatternOf}
use Rattle.rc_lazy_dfa.specs.Courses.{direction_of}
use Rattle.rc_lazy_dfa.proofs.search.LazyTransitions.pattern.Goals as goal

pub returns : goal.returns
returns g c = λ m same.
    let a = c.args.self.now.automaton in
    let places = (machine_of a Forwards).setting.places in
    let forwards : false ≡ g.W.Way.BACKWARDS = sym (sym c.BACKWARDS.ensures ∙ c.if-BACKWARDS.false) in
    let len = c.places_len.ensures Forwards in
    let past = c.if-found-places_len.false in
    let none : pattern_at (place_at places c.args.found) ≡ 0 = ap pattern_at (past_places places c.args.found (omega (arith, len, past))) in
    subst (λ k. IsPatternOf g.W.Way.BACKWARDS k c.args.found 0) same
    (subst (λ way. IsPatternOf way (machine_of a (direction_of way)) c.args.found 0) forwards none)
