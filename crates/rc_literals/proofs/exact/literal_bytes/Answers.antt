use Rattle.std.proofs.Common.{ap, sym, ◌∙◌}
use Rattle.rc_literals.specs.Literals.{literal_bytes}
use Rattle.rc_literals.proofs.KindLemmas.{no_bytes}
use Rattle.rc_literals.proofs.exact.literal_bytes.Goals as goal

pub returns-in-Empty : goal.returns-in-Empty
returns-in-Empty c = sym (no_bytes c.kind.result.now c.in-Empty.is) ∙ ap literal_bytes c.kind.ensures.value
