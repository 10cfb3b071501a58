use Rattle.std.proofs.Common.{arith}
use Rattle.api_meta.proofs.regex.Regex.undecided_from.Goals as goal

pub returns-clause-far : goal.returns-clause-far
returns-clause-far g c other n greatest =
    let low = c.undecided_by_length-by_length.ensures.far other n greatest in
    omega (arith, low, c.max.ensures)
