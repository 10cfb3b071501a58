use Rattle.std.proofs.Common.{arith}
use Rattle.rc_strategy.proofs.EntryLemmas.{entered_at, first_at, later_at, some_told}
use Rattle.rc_strategy.proofs.entries.entry_of.Goals as goal

pub choices-init : goal.choices-init
choices-init c = first_at c.args.program.now c.args.pattern

pub returns-in_default : goal.returns-in_default
returns-in_default c hs e lt =
    absurd (some_told c.args.program.now c.args.pattern c.choices._before c.choices.choice c.choice_at.result c.choice_at.ensures c.choices.auto._before-end
    c.choices.invariant c.in_default.is hs e lt)

pub choices-preserved : goal.choices-preserved
choices-preserved c =
    later_at c.args.program.now c.args.pattern c.choices._before c.choices.choice c.in-Some.field-0-0 c.in-Some.next c.choice_at.result c.choice_at.ensures
    c.choices.auto._before-end c.choices.invariant c.in-Some.is

pub returns-in-Some-choice_at : goal.returns-in-Some-choice_at
returns-in-Some-choice_at c =
    entered_at c.args.program.now c.args.pattern c.choices._before c.choices.choice c.in-Some-choice_at.first c.in-Some-choice_at.field-0-1 c.choice_at-2.result
    c.choice_at-2.ensures (omega (arith, c.choices-test.false, c.choices.auto._before-end)) c.choices.invariant c.in-Some-choice_at.is

pub returns-in-None : goal.returns-in-None
returns-in-None c hs e lt =
    absurd (some_told c.args.program.now c.args.pattern c.choices._before c.choices.choice c.choice_at-2.result c.choice_at-2.ensures c.choices.auto._before-end
    c.choices.invariant c.in-None.is hs e lt)
