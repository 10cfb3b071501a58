use Rattle.std.proofs.Common.{ap, sym, ◌∙◌}
use Rattle.rc_literals.specs.Literals.{literal_bytes}
use Rattle.rc_literals.proofs.KindLemmas.{no_bytes}
use Rattle.rc_literals.specs.Required.{only_byte}
use Rattle.rc_literals.proofs.required.only_byte.Goals as goal

pub returns-in-Empty-6 : goal.returns-in-Empty-6
returns-in-Empty-6 c = ap only_byte (sym (no_bytes c.kind.result.now c.in-Empty.is) ∙ ap literal_bytes c.kind.ensures.value)

pub returns-in-Empty-7 : goal.returns-in-Empty-7
returns-in-Empty-7 c = ap only_byte (sym (no_bytes c.kind.result.now c.in-Empty.is) ∙ ap literal_bytes c.kind.ensures.value)
