use Rattle.std.proofs.Common.{◌∙◌, map}
use Rattle.rc_determinize.specs.Places.{state_of}
use Rattle.rc_dfa.proofs.NumberLemmas.{is_found}
use Rattle.rc_dfa.proofs.states.States.find.Goals as goal

pub returns-clause-found : goal.returns-clause-found
returns-clause-found c =
    let a = c.self.inside in
    rw (← c.self.view_is) (is_found (map state_of a.list.items) a.numbers c.write_key.new.key (state_of c.args.state.now) c.copied.result
    c.self.invariant c.in_ok-write_key.ensures (c.copied.ensures ∙ c.get.ensures.value))
