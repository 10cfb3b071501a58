use Rattle.std.proofs.Common.{◌+◌, IfSome, arith, drop, subst}
use Rattle.grep_lines.specs.Selected.{IsTurn}
use Rattle.grep_lines.proofs.BlockLemmas.{cut_twice, line_turns, lines_alike}
use Rattle.grep_lines.proofs.block.first_lines.Goals as goal

-- the lines before the place are alike
pub returns-in-Some-clause-first : goal.returns-in-Some-clause-first
returns-in-Some-clause-first g c =
    let stretch = c.next_stretch-stretch in
    let made = lines_alike c.args.terminator (g.S.LineSelector.selects c.args.selector.now) c.args.page.now stretch.result.place c.lines_before-end.result.0 c.lines_before-end.result.1
    c.lines_before-end.ensures stretch.ensures.within stretch.result.is_selected stretch.ensures.alike in
    record { whole = made.whole; counted = made.counted; alike = made.alike }

pub returns-in-None-clause-first : goal.returns-in-None-clause-first
returns-in-None-clause-first g c =
    let stretch = c.next_stretch-stretch in
    let made = lines_alike c.args.terminator (g.S.LineSelector.selects c.args.selector.now) c.args.page.now stretch.result.place c.lines_before-end.result.0 c.lines_before-end.result.1
    c.lines_before-end.ensures stretch.ensures.within stretch.result.is_selected stretch.ensures.alike in
    record { whole = made.whole; counted = made.counted; alike = made.alike }

-- the one behind them isn't
pub returns-in-Some-clause-second : goal.returns-in-Some-clause-second
returns-in-Some-clause-second g c =
    let stretch = c.next_stretch-stretch in
    let picks = g.S.LineSelector.selects c.args.selector.now in
    let is : IsTurn c.args.terminator picks stretch.result.is_selected c.args.page.now stretch.result.place c.in-Some.turn =
    subst (λ o. IfSome o (IsTurn c.args.terminator picks stretch.result.is_selected c.args.page.now stretch.result.place)) c.in-Some.is stretch.ensures.turn in
    let made = line_turns c.args.terminator picks c.args.page.now stretch.result.place c.lines_before-end.result.0 c.lines_before-end.result.1 c.lines_before-end.ensures
    stretch.ensures.within stretch.result.is_selected c.in-Some.turn is in
    record { whole = made.whole; counted = made.counted; alike = made.alike }

pub returns-in-Some-clause-parts : goal.returns-in-Some-clause-parts
returns-in-Some-clause-parts g c =
    let stretch = c.next_stretch-stretch in
    let picks = g.S.LineSelector.selects c.args.selector.now in
    let is : IsTurn c.args.terminator picks stretch.result.is_selected c.args.page.now stretch.result.place c.in-Some.turn =
    subst (λ o. IfSome o (IsTurn c.args.terminator picks stretch.result.is_selected c.args.page.now stretch.result.place)) c.in-Some.is stretch.ensures.turn in
    let end = c.lines_before-end.result.0 in
    let next = c.in-Some.turn + 1 in
    record { rest = drop next c.args.page.now; is = cut_twice c.args.page.now end next (omega (arith, is.behind, c.lines_before-end.ensures.within)) }
