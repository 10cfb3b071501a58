use Rattle.std.proofs.Common.{ℕ, ◌+◌, subst, arith}
use Rattle.std.proofs.lemmas.Result.{err_from_is_err_and}
use Rattle.rc_dfa.specs.Automata.{samples_of}
use Rattle.rc_dense_dfa.specs.Rows.{AreStarts}
use Rattle.rc_dense_dfa.proofs.FillLemmas.{refused_by, grows_on}
use Rattle.rc_dense_dfa.proofs.build.starts_of.Goals as goal

pub returns-in_err-starts_by-clause-refused : goal.returns-in_err-starts_by-clause-refused
returns-in_err-starts_by-clause-refused g c =
    let p = err_from_is_err_and c.from_residual.result c.from_residual.ensures.1 in
    rw (p.1, p.2) (refused_by g.m c.args.maker.now.names c.loop-mode.maker.names _ c.loop-mode.invariant.grows c.in_err-starts_by.ensures.refused)

pub returns-in_err-start_at_end-clause-refused : goal.returns-in_err-start_at_end-clause-refused
returns-in_err-start_at_end-clause-refused g c =
    let p = err_from_is_err_and c.from_residual-in_err-start_at_end.result c.from_residual-in_err-start_at_end.ensures.1 in
    let both = grows_on c.args.maker.now.names c.loop-mode.maker.names c.starts_by.new.self.names c.loop-mode.invariant.grows c.in_ok-starts_by.ensures.grows in
    rw (p.1, p.2) (refused_by g.m c.args.maker.now.names c.starts_by.new.self.names _ both c.in_err-start_at_end.ensures.refused)

pub loop-mode-preserved : goal.loop-mode-preserved
loop-mode-preserved g c =
    let a = c.in_ok-starts_by.ensures in
    let b = c.in_ok-start_at_end.ensures in
    let both = grows_on c.args.maker.now.names c.loop-mode.maker.names c.starts_by.new.self.names c.loop-mode.invariant.grows a.grows in
    record {
      maker = b.maker;
      grows = grows_on c.args.maker.now.names c.starts_by.new.self.names c.start_at_end.new.self.names both b.grows;
      within = omega (arith, c.loop-mode-test.true);
      starts = subst (λ (n : ℕ). AreStarts g.m (samples_of c.args.automaton.now) c.start_at_end.new.self.names.states (n + 1) 0 c.start_at_end.new.starts.items)
          c.in-Some.ensures b.starts;
    }
