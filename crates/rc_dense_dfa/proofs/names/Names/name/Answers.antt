use Rattle.std.proofs.Common.{◌+◌, ◌*◌, ◌<◌, arith}
use Rattle.rc_determinize.specs.Places.{state_of}
use Rattle.rc_dense_dfa.proofs.NameLemmas.{row_below, marks_bound}
use Rattle.rc_dense_dfa.proofs.names.Names.name.Goals as goal
use Rattle.rc_dense_dfa.proofs.names.Names.name.Goals.{In_ok-number}

below : (g : _) (c : In_ok-number g) → c.in_ok-number.number * c.number.new.self.width + c.number.new.self.width < 2305843009213693952
below g c =
    let n = c.in_ok-number.ensures.named in
    row_below c.number.new.self.states c.in_ok-number.number (state_of c.args.state.now) c.number.new.self.width n.wide c.in_ok-number.ensures.number n.small

pub overflow_mul-result : goal.overflow_mul-result
overflow_mul-result g c = let h = below g c in omega (arith, h)

pub overflow_add-result : goal.overflow_add-result
overflow_add-result g c =
    let h = below g (goal.at.overflow_add-result g c).In_ok-number in
    let wide = c.in_ok-number.ensures.named.wide in
    let m = marks_bound (state_of c.args.state.now) in
    omega (arith, h, wide, m, c.marks.ensures)
