use Rattle.std.proofs.Common.{◌<◌, ◌≤◌, arith, bit_and}
use Rattle.std.proofs.lemmas.Bool.Decides.{nat_tests}
use Rattle.std.proofs.lemmas.Nat.{and_le_l}
use Rattle.rc_needles.proofs.TeddyLemmas.{set_bit, sifted_by_bit}
use Rattle.rc_needles.proofs.teddy.Teddy.takes.Goals as goal

pub returns : goal.returns
returns c passes =
    let x = c.taken_at.result in
    let rest = bit_and c.taken_at-2.result c.taken_at-3.result in
    let some : 0 < bit_and x rest = grind (arith, nat_tests) in
    let le : bit_and x rest ≤ x = and_le_l x rest in
    let bit = set_bit (bit_and x rest) some (omega (arith, le, c.taken_at.type_inv)) in
    sifted_by_bit c.args.self.now c.args.needle.now x c.taken_at-2.result c.taken_at-3.result bit.0 c.taken_at.ensures c.taken_at-2.ensures c.taken_at-3.ensures bit.1
