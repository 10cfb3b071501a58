use Rattle.std.proofs.Common.{ap, sym, ◌∙◌, subst, map, take, ◌+◌}
use Rattle.rc_pattern.specs.Meaning.{meaning}
use Rattle.rc_pattern.specs.declared.syntax.Error.TheVariants.{Syntax as FaultAt}
use Rattle.rc_parser.specs.Settings.{settings_of}
use Rattle.rc_build.specs.TextRefusals.{AllRead, texts_of}
use Rattle.rc_build.proofs.TextLemmas.{read_more, first_unread}
use Rattle.rcgrep.proofs.patterns.read_patterns.Goals as goal

pub loop-number-preserved : goal.loop-number-preserved
loop-number-preserved c =
    subst (λ x. AllRead (settings_of c.args.config.now) (texts_of (take (c.loop-number.number + 1) c.args.texts.now)) (map meaning x)) (sym c.in_ok-push-in-Ok.ensures.items)
    (read_more (settings_of c.args.config.now) c.args.texts.now c.loop-number.number _ c.loop-number.hirs.items c.in-Ok.hir c.loop-number-test.true c.loop-number.invariant c.in-Ok.ensures.reads)

pub returns-in-Err-Syntax-clause-unread : goal.returns-in-Err-Syntax-clause-unread
returns-in-Err-Syntax-clause-unread c = (
  FaultAt c.in-Err-Syntax.field-0-0,
  first_unread (settings_of c.args.config.now) c.args.texts.now c.loop-number.number _ (map meaning c.loop-number.hirs.items) c.in-Err-Syntax.field-0
      c.in-Err-Syntax.field-0-0 c.loop-number-test.true c.loop-number.invariant c.in-Err-Syntax.field-0-is c.in-Err-Syntax.ensures.reads,
)
