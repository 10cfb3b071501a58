use Rattle.std.proofs.Common.{inl, inr, refl}
use Rattle.rc_dfa.specs.Automata.{machine_of}
use Rattle.rc_determinize.specs.Places.{state_of}
use Rattle.rc_dense_dfa.specs.Tables.{begins}
use Rattle.rc_dense_dfa.proofs.MakerLemmas.{unread, read, begun}
use Rattle.rc_dense_dfa.proofs.maker.Maker.start.Goals as goal

pub returns-then-not-may_read-clause-cell : goal.returns-then-not-may_read-clause-cell
returns-then-not-may_read-clause-cell g c =
    inl (refl, unread g.m (machine_of c.args.automaton.now c.args.direction) c.may_read.result c.args.beside c.requires.0 c.if-not-may_read.true (c.may_read.ensures c.args.direction).1)

pub name-requires : goal.name-requires
name-requires g c =
    let k = machine_of c.args.automaton.now c.args.direction in
    let readable = read g.m k c.may_read.result c.args.beside c.requires.0 c.if-not-may_read.false (c.may_read.ensures c.args.direction).0 in (
      c.requires.1.0.named,
      begins c.args.anchored c.args.beside c.requires.1.1.0 c.requires.1.1.1 readable (begun g.m k c.args.anchored c.args.beside (state_of c.begin.new.to) c.requires.0 c.in_ok-begin.ensures),
    )

pub returns-clause-cell : goal.returns-clause-cell
returns-clause-cell g c =
    let k = machine_of c.args.automaton.now c.args.direction in
    let readable = read g.m k c.may_read.result c.args.beside c.requires.0 c.if-not-may_read.false (c.may_read.ensures c.args.direction).0 in
    inr (readable, (state_of c.begin.new.to, begun g.m k c.args.anchored c.args.beside (state_of c.begin.new.to) c.requires.0 c.in_ok-begin.ensures, c.in_ok-name.ensures.name))
