use Rattle.std.proofs.Common.{ap, sym, ◌∙◌, subst, map, take, ◌+◌}
use Rattle.rc_pattern.specs.Meaning.{meaning}
use Rattle.rc_pattern.specs.declared.syntax.Error.TheVariants.{Syntax as FaultAt}
use Rattle.rc_parser.specs.Settings.{settings_of}
use Rattle.rc_build.specs.TextRefusals.{AllRead, texts_of}
use Rattle.rc_build.proofs.TextLemmas.{read_more, first_unread}
use Rattle.rc_build.proofs.CheckLemmas.{number_of_some}
use Rattle.rc_build.proofs.texts.parse_all.Goals as goal

pub returns-in-Err-Syntax-clause-refused : goal.returns-in-Err-Syntax-clause-refused
returns-in-Err-Syntax-clause-refused c =
    rw (number_of_some _ _ _ _ c.new.ensures c.unwrap-pattern.ensures)
    (first_unread (settings_of c.args.config.now) c.args.texts.now c.loop-i.i _ (map meaning c.loop-i.hirs.items) c.in-Err-Syntax.field-0 _
    c.loop-i-test.true c.loop-i.invariant (c.in-Err-Syntax.field-0-is ∙ ap FaultAt (sym c.in-Err-Syntax.at-is)) c.in-Err-Syntax.ensures.reads)

pub loop-i-preserved : goal.loop-i-preserved
loop-i-preserved c =
    subst (λ x. AllRead (settings_of c.args.config.now) (texts_of (take (c.loop-i.i + 1) c.args.texts.now)) (map meaning x)) (sym c.in_ok-push-in-Ok.ensures.items)
    (read_more (settings_of c.args.config.now) c.args.texts.now c.loop-i.i _ c.loop-i.hirs.items c.in-Ok.hir c.loop-i-test.true c.loop-i.invariant c.in-Ok.ensures.reads)
