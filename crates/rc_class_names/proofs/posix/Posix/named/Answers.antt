use Rattle.std.proofs.Common.{◌∙◌, ap, sym}
use Rattle.rc_tokens.specs.Text.{same_text}
use Rattle.rc_class_names.specs.Posix.{posix_name, posix_classes}
use Rattle.rc_class_names.proofs.NameLemmas.{find_step}
use Rattle.rc_class_names.proofs.posix.Posix.named.Goals as goal

pub loop-i-preserved : goal.loop-i-preserved
loop-i-preserved c =
    c.loop-i.invariant
    ∙ find_step (λ class. same_text c.args.name.now (posix_name class)) posix_classes c.loop-i.i _ c.loop-i-test.true
    (ap (same_text c.args.name.now) (sym c.name.ensures) ∙ sym c.is_same.ensures ∙ c.if-is_same.false)
