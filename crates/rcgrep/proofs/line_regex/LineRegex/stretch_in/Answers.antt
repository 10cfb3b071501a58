use Rattle.std.proofs.Common.{IfSome, ◌∙◌, ap, length, subst, sym}
use Rattle.rcgrep.specs.Local.{IsLineEnd, IsLineEndOf, start_or}
use Rattle.rcgrep.proofs.line_regex.LineRegex.stretch_in.Goals as goal

pub returns-clause-place : goal.returns-clause-place
returns-clause-place c = c.start-start.ensures.value ∙ ap (start_or (length c.args.text.now)) (sym c.in-Some.is ∙ c.find.ensures.value)

pub returns-clause-turn : goal.returns-clause-turn
returns-clause-turn c =
    let text = c.args.text.now in
    let turn = c.line_end.result in
    subst (λ o. IfSome turn (IsLineEnd text o)) (sym c.in-Some.is ∙ c.find.ensures.value)
    (subst (λ n. IfSome turn (IsLineEndOf text n c.in-Some.found.end)) c.start-start.ensures.value
    (subst (λ n. IfSome turn (IsLineEndOf text c.start-start.result n)) c.end-end.ensures.value c.line_end.ensures))

pub returns-in_default-clause-place : goal.returns-in_default-clause-place
returns-in_default-clause-place c = ap (start_or (length c.args.text.now)) (sym c.in_default.is ∙ c.find.ensures.value)
