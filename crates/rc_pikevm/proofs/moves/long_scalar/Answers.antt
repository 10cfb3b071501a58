use Rattle.std.proofs.Common.{◌∙◌, ap, length, take, arith, sym, ⊎_elim}
use Rattle.std.proofs.lemmas.Bool.{cases_lt}
use Rattle.std.proofs.lemmas.List.{take_all}
use Rattle.rc_program.specs.Scalars.{scalar_at}
use Rattle.rc_pikevm.proofs.moves.long_scalar.Goals as goal

pub returns : goal.returns
returns c =
    let bytes = c.args.after.now in
    c.scalar_at.ensures
    ∙ ⊎_elim
    (λ l. ap (λ n. scalar_at (take n bytes)) (omega (arith, l, c.min.ensures)))
    (λ ge. ap scalar_at (take_all c.min.result bytes (omega (arith, ge, c.min.ensures)) ∙ sym (take_all c.args.room bytes (omega (arith, ge)))))
    (cases_lt c.args.room (length bytes))
