use Rattle.std.proofs.Common.{sym, subst, arith}
use Rattle.rc_lazy_dfa.specs.Stores.{IsRow}
use Rattle.rc_lazy_dfa.proofs.NameLemmas.{row_met}
use Rattle.rc_lazy_dfa.proofs.CellLemmas.{none_met}
use Rattle.rc_lazy_dfa.proofs.cells.stop_by.Goals as goal

pub returns-then-cell-ge-MET : goal.returns-then-cell-ge-MET
returns-then-cell-ge-MET c = λ f h t n.
    c.stop_at.ensures f h t
    (subst (λ r. IsRow f.width c.args.store.now.states r t) (sym c.row_of.ensures) (row_met f c.args.store.now h c.args.cell t n c.if-cell-ge-MET.true))

pub returns : goal.returns
returns c = λ f h t n. sym (none_met f c.args.store.now h c.args.cell t n (let lt = c.if-cell-ge-MET.false in omega (arith, lt)))
