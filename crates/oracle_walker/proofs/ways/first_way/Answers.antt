use Rattle.std.proofs.Common.{arith}
use Rattle.oracle_walker.proofs.TextLemmas.{scalar_within}
use Rattle.oracle_walker.proofs.ways.first_way.Goals as goal

pub overflow_add-result-then-has_char : goal.overflow_add-result-then-has_char
overflow_add-result-then-has_char g c =
    let h = scalar_within c.args.input.now.content c.args.position c.args.hi c.in_ok-character-in-Scalar.character c.in_ok-character-in-Scalar.count
    (c.in_ok-character-in-Scalar.ensures.value) c.requires.position_in in
    omega (arith, h)
