use Rattle.std.proofs.Common.{ap, sym, ◌∙◌}
use Rattle.rc_literals.specs.Literals.{literals_of}
use Rattle.rc_literals.proofs.KindLemmas.{no_literals}
use Rattle.rc_literals.proofs.exact.exact_literals.Goals as goal

pub returns-in-Empty : goal.returns-in-Empty
returns-in-Empty c = sym (no_literals c.kind.result.now c.in-Empty.is) ∙ ap literals_of c.kind.ensures.value
