use Rattle.std.proofs.Common.{refl}
use Rattle.std.proofs.Props.{props}
use Rattle.std.proofs.Math.Logic.{∥∥₁_elim}
use Rattle.rc_dfa_reach.specs.RunReach.{seen_to}
use Rattle.rc_strategy.specs.Tables.{AreHalvesFor}
use Rattle.rc_strategy.specs.declared.question.Question.TheVariants.{Match}
use Rattle.rc_strategy.proofs.KeptLemmas.{whole_found}
use Rattle.rc_strategy.proofs.QuestionLemmas.{tables_may}
use Rattle.rc_strategy.proofs.ReachLemmas.{answered}
use Rattle.rc_strategy.proofs.engines.Engines.find_unguarded.Goals as goal

pub returns-then-self-clause-found : goal.returns-then-self-clause-found
returns-then-self-clause-found g c =
    let e = c.args.self.now in
    tables_may e.engine e.patterns c.args.input.now c.requires.own Match c.aim-aim.result c.aim-aim.ensures c.find_here_first.result
    (λ hs same h. c.find_here_first.ensures.found hs e.engine.program.terminator h)

pub returns-then-not-tells_reach-clause-found : goal.returns-then-not-tells_reach-clause-found
returns-then-not-tells_reach-clause-found g c =
    let e = c.args.self.now in
    tables_may e.engine e.patterns c.args.input.now c.requires.own Match c.aim-aim.result c.aim-aim.ensures c.find_between.result
    (λ hs same h. whole_found c.aim-aim.result hs e.engine.program.terminator c.args.input.now c.args.bounds.low c.requires.bounds.0 c.find_between.result
    (c.find_between.ensures.found hs e.engine.program.terminator h))

pub returns-clause-found : goal.returns-clause-found
returns-clause-found g c =
    let e = c.args.self.now in
    ∥∥₁_elim c.requires.own (hlevel props)
    (λ (f : AreHalvesFor e.engine e.patterns (g.H.Halves.AreOf c.args.halves.now)).
    answered e.engine c.args.input.now (seen_to f.halves.ahead.alphabet c.in_ok-settled.settled.reach) c.in_ok-settled.settled.found
    (c.in_ok-settled.ensures.settled f.halves.ahead.alphabet ∣ record { are_halves = f; read = refl } ∣₁))
