use Rattle.std.proofs.Common.{◌∙◌, sym, arith}
use Rattle.rc_table_search.proofs.ScalarLemmas.{scalar_inside}
use Rattle.rc_table_search.proofs.scalars.scalar_from.Goals as goal

pub returns-clause-within : goal.returns-clause-within
returns-clause-within c =
    scalar_inside c.args.piece.now c.args.first c.in_ok-c.c c.in_ok-c.count (sym c.scalar_at.ensures ∙ c.in_ok-c.was) c.requires

pub overflow_add-end : goal.overflow_add-end
overflow_add-end c =
    let most = scalar_inside c.args.piece.now c.args.first c.in_ok-c.c c.in_ok-c.count (sym c.scalar_at.ensures ∙ c.in_ok-c.was) c.requires in
    record { fits = omega (arith, most, c.shared_slice_known-1.given) }
