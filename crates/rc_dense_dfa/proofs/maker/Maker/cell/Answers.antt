use Rattle.std.proofs.Common.{◌<◌, inl, inr, refl, subst, sym, Some, arith}
use Rattle.rc_dfa.specs.Automata.{machine_of}
use Rattle.rc_determinize.specs.Places.{state_of}
use Rattle.rc_dense_dfa.specs.Rows.{AreNamed}
use Rattle.rc_dense_dfa.specs.declared.names.Names.{Names}
use Rattle.rc_dense_dfa.proofs.MakerLemmas.{unread, read, led, reached_on}
use Rattle.rc_dense_dfa.proofs.maker.Maker.cell.Goals as goal

pub returns-then-not-may_read-clause-cell : goal.returns-then-not-may_read-clause-cell
returns-then-not-may_read-clause-cell g c = λ s e.
    inl (refl, unread g.m (machine_of c.args.automaton.now c.args.direction) c.may_read.result (Some c.args.byte) c.requires.0 c.if-not-may_read.true (c.may_read.ensures c.args.direction).1)

pub name-requires : goal.name-requires
name-requires g c =
    let k = machine_of c.args.automaton.now c.args.direction in
    let named = c.requires.1.0.named in
    let byte : c.args.byte < 256 = omega (arith, c.ranges.byte.fits) in
    let readable = read g.m k c.may_read.result (Some c.args.byte) c.requires.0 c.if-not-may_read.false (c.may_read.ensures c.args.direction).0 in (
      subst (λ (n : Names). AreNamed g.m n) (sym c.in_ok-lead.ensures.names) named,
      reached_on g.m c.args.self.now.names.states c.args.number c.args.byte (state_of c.lead.new.self.to) named.are_states c.requires.1.1 byte readable
          (λ s e. led g.m k s (state_of c.lead.new.self.to) (Some c.args.byte) c.requires.0 (c.in_ok-lead.ensures.leads s e)),
    )

pub returns-clause-cell : goal.returns-clause-cell
returns-clause-cell g c = λ s e.
    let k = machine_of c.args.automaton.now c.args.direction in
    let readable = read g.m k c.may_read.result (Some c.args.byte) c.requires.0 c.if-not-may_read.false (c.may_read.ensures c.args.direction).0 in
    inr (readable, (state_of c.lead.new.self.to, led g.m k s (state_of c.lead.new.self.to) (Some c.args.byte) c.requires.0 (c.in_ok-lead.ensures.leads s e), c.in_ok-name.ensures.name))
