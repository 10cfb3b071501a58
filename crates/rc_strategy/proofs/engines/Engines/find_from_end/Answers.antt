use Rattle.std.proofs.Common.{◌∙◌, ap, sym, ⊎_elim}
use Rattle.rc_strategy.specs.Lengths.{is_leftmost}
use Rattle.rc_strategy.proofs.TableLemmas.{tables_tell_from_end, tables_tell_greatest_from_end}
use Rattle.rc_dfa_search.specs.declared.search.Aim.{Aim}
use Rattle.rc_strategy.proofs.engines.Engines.find_from_end.Goals as goal

pub returns-in-LeftmostFirst-clause-found : goal.returns-in-LeftmostFirst-clause-found
returns-in-LeftmostFirst-clause-found g c =
    let e = c.args.self.now in
    let kind = ap (λ (a : Aim). a.kind) c.aim-aim.ensures in
    tables_tell_from_end e.engine e.patterns c.args.input.now c.aim-aim.result c.requires.own c.aim-aim.ensures e.spans e.bound
    (⊎_elim (λ a. ap is_leftmost (sym kind ∙ a)) (λ b. ap is_leftmost (sym kind ∙ b)) c.in-LeftmostFirst.is) c.requires.free c.requires.ends
    c.find_to_end.result (λ hs same h. c.find_to_end.ensures.found hs e.engine.program.terminator h)

pub returns-in-All-clause-found : goal.returns-in-All-clause-found
returns-in-All-clause-found g c =
    let e = c.args.self.now in
    let kind = ap (λ (a : Aim). a.kind) c.aim-aim.ensures in
    tables_tell_greatest_from_end e.engine e.patterns c.args.input.now c.aim-aim.result c.requires.own c.aim-aim.ensures e.spans e.bound
    (sym kind ∙ c.in-All.is) c.requires.free c.requires.ends
    c.find_to_end-in-All.result (λ hs same h. c.find_to_end-in-All.ensures.found hs e.engine.program.terminator h)
