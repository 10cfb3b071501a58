use Rattle.std.proofs.Common.{◌∙◌, sym, subst}
use Rattle.rc_dfa.specs.Machine.{Begins}
use Rattle.rc_lazy_dfa.specs.Stores.{IsKnown}
use Rattle.rc_lazy_dfa.proofs.WhichLemmas.{begin_dies, begin_goes}
use Rattle.rc_lazy_dfa.proofs.which.Ends.begin.Goals as goal
use Rattle.rc_lazy_dfa.proofs.which.Ends.begin.Goals.{In-Ok}

known : (g : _) (c : In-Ok g) → IsKnown g.o.frame c.begin-begun.new.self.store.states c.args.beside (Begins g.o.frame.machine g.o.anchored c.args.beside) c.in-Ok.cell
known g c =
    subst (λ a. IsKnown g.o.frame c.begin-begun.new.self.store.states c.args.beside (Begins g.o.frame.machine a c.args.beside) c.in-Ok.cell) c.requires.1.1.1.0
    c.in-Ok.ensures.begins

pub returns-then-has_died : goal.returns-then-has_died
returns-then-has_died g c =
    begin_dies g.o c.requires.1.0 _ c.in-Ok.ensures.half c.args.beside c.in-Ok.cell c.requires.1.1.1.1.0 (known g (goal.at.returns-then-has_died g c).In-Ok)
    c.if-cell.false (sym c.has_died.ensures ∙ c.if-has_died.true)

pub returns : goal.returns
returns g c =
    begin_goes g.o c.requires.1.0 _ c.in-Ok.ensures.half c.args.beside c.in-Ok.cell c.requires.1.1.1.1.0 (known g (goal.at.returns g c).In-Ok) c.if-cell.false
    c.row_of.result c.row_of.ensures (sym c.has_died.ensures ∙ c.if-has_died.false) c.clear.ensures.items
