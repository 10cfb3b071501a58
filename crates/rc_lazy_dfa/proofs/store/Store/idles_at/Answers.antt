use Rattle.std.proofs.Common.{◌∙◌, ap, arith}
use Rattle.rc_determinize.specs.Places.{state_of}
use Rattle.rc_dfa.specs.Machine.{is_idle}
use Rattle.rc_lazy_dfa.proofs.RowLemmas.{row_state, row_there}
use Rattle.rc_lazy_dfa.proofs.store.Store.idles_at.Goals as goal

pub returns-then-number-len : goal.returns-then-number-len
returns-then-number-len c = λ f h s r.
    c.is_idle.ensures ∙ ap is_idle (row_state f c.args.self.now h c.args.row s r (state_of c.get.result.now) c.get.ensures)

pub returns : goal.returns
returns c = λ f h s r.
    let past = c.if-number-len.false in
    let len = c.len.ensures in
    absurd (row_there f c.args.self.now h c.args.row s r (omega (arith, past, len)))
