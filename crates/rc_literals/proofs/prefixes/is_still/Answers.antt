use Rattle.std.proofs.Common.{ap, sym, ◌∙◌}
use Rattle.rc_pattern.specs.Meaning.{meaning}
use Rattle.rc_literals.specs.Extraction.{is_still}
use Rattle.rc_literals.proofs.KindLemmas.{not_still, still_concat}
use Rattle.rc_literals.proofs.prefixes.is_still.Goals as goal

pub returns-in-Concat : goal.returns-in-Concat
returns-in-Concat c =
    c.is_empty.ensures
    ∙ still_concat (meaning c.args.hir.now) c.kind.result.now c.in-Concat.subs c.as_slice.result.now c.kind.ensures.value c.in-Concat.is
    c.as_slice.ensures.value

pub returns-in-Literal-5 : goal.returns-in-Literal-5
returns-in-Literal-5 c = sym (not_still c.kind.result.now c.in-Literal.is) ∙ ap is_still c.kind.ensures.value
