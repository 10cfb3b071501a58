use Rattle.std.proofs.Common.{◌≡◌, ◌<◌, ◌+◌, ◌++◌, ap₂, arith, length, refl, subst, sym, take}
use Rattle.grep_lines.specs.Blocks.{TakesFront, selected_in}
use Rattle.grep_lines.proofs.AdvanceLemmas.{block_front, first_fewer, front_both, page_front}
use Rattle.grep_lines.proofs.context.Progress.take_page.Goals as goal

-- both blocks were taken
pub returns-clause-ok : goal.returns-clause-ok
returns-clause-ok g c =
    let e = c.args.plan.extent in
    let stop = c.args.plan.terminator in
    let picks = g.S.LineSelector.selects c.args.selector.now in
    let count = c.args.count in
    let told = c.first_lines.ensures in
    let a = c.first_lines.result.0 in
    let b = c.first_lines.result.1 in
    let start = g.P.LinePrinter.printed c.args.printer.now in
    let mid = g.P.LinePrinter.printed c.take_block.new.printer in
    let end = g.P.LinePrinter.printed c.take_block-2.new.printer in
    let fewer : count < e.most = omega (arith, c.if-count-plan.false) in
    let first = block_front stop e picks c.args.self.now c.take_block.new.self start mid count a told.first (omega (arith, told.few)) c.in_ok-take_block.ensures.ok fewer
    c.in_ok-take_block.ensures.left in
    let second = block_front stop e picks c.take_block.new.self c.take_block-2.new.self mid end (count + selected_in a) b told.second (omega (arith, told.few))
    c.in_ok-take_block-2.ensures.ok
    (first_fewer count e.most (selected_in a) (selected_in b) fewer (omega (arith, told.few)) (λ all. told.last (omega (arith, all))))
    c.in_ok-take_block-2.ensures.left in
    let both = front_both stop e picks c.args.self.now c.take_block.new.self c.take_block-2.new.self start mid end count (selected_in a) (selected_in b) a.text.now b.text.now first second
    (λ all. told.last (omega (arith, all))) in
    let n = length a.text.now + length b.text.now in
    let front : take n c.args.page.now ≡ a.text.now ++ b.text.now =
    page_front c.args.page.now a.text.now b.text.now told.parts.rest n told.parts.is refl in
    subst (λ xs. TakesFront stop e picks c.args.self.now c.take_block-2.new.self start end count (c.selected.result + c.selected-2.result) xs) (sym front)
    (subst (λ k. TakesFront stop e picks c.args.self.now c.take_block-2.new.self start end count k (a.text.now ++ b.text.now))
    (sym (ap₂ ◌+◌ c.selected.ensures c.selected-2.ensures)) both)
