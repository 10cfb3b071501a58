use Rattle.std.proofs.Common.{◌≡◌, ◌+◌, List, Option, [], arith, drop, min, subst}
use Rattle.std.proofs.Math.ListN.{drop_of_length-le}
use Rattle.rc_onepass.specs.Rows.{bytes_of_rows}
use Rattle.rc_onepass.specs.declared.row.Row.{Row}
use Rattle.rc_onepass.proofs.onepass.OnePass.memory_usage.Goals as goal

pub returns : goal.returns
returns c =
    let rows = c.args.self.now.rows.items in
    let past = c.loop-row-test.false in
    let small = c.loop-row.invariant.small in
    let none : drop c.loop-row.row-index rows ≡ [] = drop_of_length-le rows (omega (arith, past)) in
    let all = subst (λ (xs : List (Option Row)). min (c.loop-row.bytes + bytes_of_rows xs) 18446744073709551615 ≡ min (bytes_of_rows rows) 18446744073709551615) none
    c.loop-row.invariant.counted in
    omega (arith, all, small)
