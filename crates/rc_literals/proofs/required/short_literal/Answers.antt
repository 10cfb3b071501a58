use Rattle.std.proofs.Common.{ap, sym, ◌∙◌}
use Rattle.rc_literals.specs.Literals.{literal_bytes}
use Rattle.rc_literals.specs.Required.{short_bytes}
use Rattle.rc_literals.proofs.KindLemmas.{no_bytes}
use Rattle.rc_literals.proofs.required.short_literal.Goals as goal

pub returns-in-Empty : goal.returns-in-Empty
returns-in-Empty c = ap short_bytes (sym (no_bytes c.kind.result.now c.in-Empty.is) ∙ ap literal_bytes c.kind.ensures.value)
