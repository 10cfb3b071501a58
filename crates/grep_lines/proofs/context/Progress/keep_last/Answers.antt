use Rattle.std.proofs.Common.{◌≡◌, ◌-◌, ◌∙◌, ◌++◌, ap, arith, drop, length, length-append, length-drop, sym, take, take_all}
use Rattle.std.proofs.lemmas.List.{take-append-drop}
use Rattle.grep_lines.specs.Ahead.{contents}
use Rattle.grep_lines.specs.Lines.{lines}
use Rattle.grep_lines.proofs.AdvanceLemmas.{advances_kept}
use Rattle.grep_lines.proofs.PageLemmas.{lines_append}
use Rattle.grep_lines.proofs.context.Progress.keep_last.Goals as goal

-- the last lines are kept
pub returns-clause-ok : goal.returns-clause-ok
returns-clause-ok c = λ printed.
    let stop = c.args.plan.terminator in
    let text = c.args.text.now in
    let end = c.last_lines-end.result in
    let told = c.last_lines-end.ensures in
    let front = take end text in
    let back = drop end text in
    let split : lines stop text ≡ lines stop front ++ lines stop back =
    ap (lines stop) (sym (take-append-drop end text)) ∙ lines_append stop front back told.whole in
    let all : take (length text - end) back ≡ back = take_all (length text - end) back (omega (arith, length-drop end text)) in
    advances_kept c.args.plan.extent c.args.self.now c.keep_each.new.self stop text end printed c.requires.idle
    (c.keep_each.ensures.left ∙ c.pass.ensures.left) (c.keep_each.ensures.behind ∙ c.pass.ensures.behind) told.whole (omega (arith, told.counted))
    (omega (arith, c.keep_each.ensures.next, c.pass.ensures.next, c.requires.counted, ap length split, length-append (lines stop front) (lines stop back), told.counted))
    (c.keep_each.ensures.place ∙ c.pass.ensures.place)
    (c.in_ok-keep_each.ensures.kept ∙ ap (λ vs. contents vs ++ lines stop (take (length text - end) back)) c.pass.ensures.none_kept ∙ ap (lines stop) all)
