use Rattle.std.proofs.Common.{◌≡◌, ◌≤◌, ◌∙◌, ap, arith, length, length-append, subst, sym, take}
use Rattle.std.specs.Prelude.{IfSome}
use Rattle.std.specs.Io.BufRead.{FillKeeps}
use Rattle.std.specs.Io.KnownBytes.{Consumes}
use Rattle.std.proofs.BufReadLemmas.{Consumes_shown}
use Rattle.std.proofs.Math.Seq.{take-append_seam}
use Rattle.grep_lines.specs.Blocks.{TakesLinesAt}
use Rattle.grep_lines.specs.Touched.{picks_touched}
use Rattle.grep_lines.proofs.StretchLemmas.{takes_block}
use Rattle.grep_lines.proofs.context.Progress.take_touched.Goals as goal

-- the lines were taken
pub returns-clause-ok : goal.returns-clause-ok
returns-clause-ok g c =
    let e = c.args.plan.extent in
    let stop = c.args.plan.terminator in
    let front = c.args.front in
    let picks = picks_touched front.touched.now.is_inverted front.touched.now.spans.now in
    let p = c.args.self.now in
    let q = c.take_block.new.self in
    let a = g.P.LinePrinter.printed c.args.printer.now in
    let b = g.P.LinePrinter.printed c.take_block.new.printer in
    let shown = c.in-Ok.page.now in
    let block = c.first_alike-block.result in
    let told = c.first_alike-block.ensures in
    let within : length block.text.now ≤ length shown = omega (arith, ap length told.part.is ∙ length-append block.text.now told.part.rest) in
    let rested = c.fill_buf.follows.lender-at-none in
    let filled = subst (FillKeeps _ (g.R.Read.remaining rested) (g.R.BufRead.consumable_len rested)) c.in-Ok.is c.fill_buf.follows.holds-at-none in
    let moved = Consumes_shown _ _ _ _ shown (length block.text.now) within c.in-Ok.ensures.front c.in-Ok.ensures.end filled.0 filled.1 c.consume.ensures.bytes in
    let same : take (length block.text.now) shown ≡ block.text.now = ap (take (length block.text.now)) told.part.is ∙ take-append_seam block.text.now told.part.rest in
    let old = g.R.Read.remaining c.args.reader.now in
    let new = g.R.Read.remaining c.consume.new.self in
    let taken =
    takes_block stop e picks p q a b front.count front.place block old new told.block (omega (arith, c.if-selected-plan.false, c.selected-selected.ensures)) c.in_default.ensures.ok
    (subst (Consumes old new) same moved.0) (omega (arith, c.if-front-plan.false)) c.in_default.ensures.left in
    subst (λ n. IfSome old (λ text. TakesLinesAt stop e picks p q a b front.count n front.place (length block.text.now) text new)) (sym c.selected-selected.ensures) taken

pub returns-clause-near : goal.returns-clause-near
returns-clause-near g c = omega (arith, c.requires.near, c.in_default.ensures.next, c.if-block-eq0.false)
