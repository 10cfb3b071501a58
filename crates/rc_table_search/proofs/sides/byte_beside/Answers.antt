use Rattle.std.proofs.Common.{true, false, IfSome, sym, subst}
use Rattle.rc_table_search.specs.Ways.{IsInSlice}
use Rattle.rc_table_search.proofs.SpanLemmas.{in_slice}
use Rattle.rc_table_search.proofs.sides.byte_beside.Goals as goal

pub returns-then-before-clause-inside : goal.returns-then-before-clause-inside
returns-then-before-clause-inside g c =
    subst (λ b. IfSome c.byte_behind.result (λ _. IsInSlice b c.args.input.now c.args.at)) (sym c.if-before.true)
    (in_slice true c.args.input.now c.args.at c.byte_behind.result c.requires.low c.requires.high c.byte_behind.ensures.value)

pub returns-clause-inside : goal.returns-clause-inside
returns-clause-inside g c =
    subst (λ b. IfSome c.byte_ahead.result (λ _. IsInSlice b c.args.input.now c.args.at)) (sym c.if-before.false)
    (in_slice false c.args.input.now c.args.at c.byte_ahead.result c.requires.low c.requires.high c.byte_ahead.ensures.value)
