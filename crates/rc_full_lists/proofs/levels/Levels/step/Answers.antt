use Rattle.std.proofs.Common.{sym, subst}
use Rattle.rc_full_lists.specs.Items.{item_set}
use Rattle.rc_full_lists.specs.Levels.{at, more, past_operator, Moves, item, operator, StepsTo}
use Rattle.rc_full_lists.proofs.LevelLemmas.{closed_steps}
use Rattle.rc_full_lists.proofs.levels.Levels.step.Goals as goal

pub returns-in_ok-with_item-in-Has : goal.returns-in_ok-with_item-in-Has
returns-in_ok-with_item-in-Has c ls are fit =
    let i = c.in-Has.item in
    let after = at (more (item_set c.args.settings.unicode c.args.fold i) ls.inner) ls.outer in (
      after,
      subst (λ k. Moves c.args.settings c.args.fold ls k c.args.text.now after c.args.text.now) (sym c.in-Has.is) (item ls.inner ls.outer i c.args.text.now),
      c.in_ok-with_item-in-Has.ensures ls are,
      fit,
    )

pub returns-in_ok-behind_operator-in-Operates : goal.returns-in_ok-behind_operator-in-Operates
returns-in_ok-behind_operator-in-Operates c ls are fit =
    let o = c.in-Operates.operation in
    let after = at (past_operator o ls.inner) ls.outer in (
      after,
      subst (λ k. Moves c.args.settings c.args.fold ls k c.args.text.now after c.args.text.now) (sym c.in-Operates.is) (operator ls.inner ls.outer o c.args.text.now),
      c.in_ok-behind_operator-in-Operates.ensures ls are,
      fit,
    )

pub returns-in_ok-close-in-Closes : goal.returns-in_ok-close-in-Closes
returns-in_ok-close-in-Closes c ls are fit =
    let s = c.args.settings in
    let v = c.in_ok-close-in-Closes.field-0 in
    subst (λ k. StepsTo s c.args.fold c.args.nest_limit ls k c.args.text.now v) (sym c.in-Closes.is)
    (closed_steps s c.args.fold c.args.nest_limit ls.inner ls.outer c.args.text.now v fit (c.in_ok-close-in-Closes.ensures ls are))
