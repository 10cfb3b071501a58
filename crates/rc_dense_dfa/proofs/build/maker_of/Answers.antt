use Rattle.std.proofs.Common.{◌∙◌, Some, ap, sym, subst}
use Rattle.rc_determinize.specs.Places.{state_of}
use Rattle.rc_dense_dfa.specs.Tables.{IsReached, dead_one}
use Rattle.rc_dense_dfa.proofs.BuildLemmas.{first_of}
use Rattle.rc_dense_dfa.proofs.build.maker_of.Goals as goal

pub name-requires : goal.name-requires
name-requires g c = (c.in_ok-names.ensures.named, subst (IsReached g.m) (sym c.dead-to.ensures) dead_one)

pub returns-clause-first : goal.returns-clause-first
returns-clause-first g c =
    let e = c.in_ok-name.ensures in
    let n = e.name in
    first_of c.in_ok-names.names.states c.name.new.self.states n.0 (state_of c.dead-to.result) c.in_ok-names.ensures.none e.few n.1 ∙ ap Some c.dead-to.ensures
