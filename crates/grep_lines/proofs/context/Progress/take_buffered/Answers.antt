use Rattle.std.proofs.Common.{IfSome, MatchOption, ◌≤◌, ◌+◌, length, subst, take}
use Rattle.std.specs.Io.BufRead.{FillKeeps}
use Rattle.std.proofs.BufReadLemmas.{Consumes_shown}
use Rattle.grep_lines.specs.Blocks.{IsUntaken, TakesFront}
use Rattle.grep_lines.proofs.AdvanceLemmas.{lines_of}
use Rattle.grep_lines.proofs.context.Progress.take_buffered.Goals as goal

-- the first lines of the page were taken
pub returns-clause-ok : goal.returns-clause-ok
returns-clause-ok g c =
    let e = c.args.plan.extent in
    let stop = c.args.plan.terminator in
    let picks = g.S.LineSelector.selects c.args.selector.now in
    let p = c.args.self.now in
    let q = c.take_page.new.self in
    let a = g.P.LinePrinter.printed c.args.printer.now in
    let b = g.P.LinePrinter.printed c.take_page.new.printer in
    let count = c.args.count in
    let shown = c.in-Ok.page.now in
    let taken = c.in-Some.field-0 in
    let told : TakesFront stop e picks p q a b count taken.selected (take taken.len shown) =
    subst (λ o. MatchOption o (IsUntaken p q a b) (λ t. TakesFront stop e picks p q a b count t.selected (take t.len shown))) c.in-Some.is c.in-Ok-take_page.ensures.ok in
    let within = subst (λ o. IfSome o (λ t. (t.len ≤ length shown) × (count + t.selected ≤ e.most))) c.in-Some.is c.in-Ok-take_page.ensures.within in
    let rested = c.fill_buf.follows.lender-at-none in
    let filled = subst (FillKeeps _ (g.R.Read.remaining rested) (g.R.BufRead.consumable_len rested)) c.in-Ok.is c.fill_buf.follows.holds-at-none in
    let moved = Consumes_shown _ _ _ _ shown taken.len within.0 c.in-Ok.ensures.front c.in-Ok.ensures.end filled.0 filled.1 c.consume.ensures.bytes in
    lines_of stop e picks p q a b count taken.selected _ _ (take taken.len shown) told moved.0
