use Rattle.std.proofs.Common.{◌≤◌, length, arith, subst}
use Rattle.std.specs.Io.BufRead.{FillKeeps}
use Rattle.std.proofs.BufReadLemmas.{Consumes_shown}
use Rattle.grep_lines.proofs.PageLemmas.{skip_page}
use Rattle.grep_lines.proofs.select.skip_lines.Goals as goal

-- the page's first lines were passed over
pub returns-clause-skipped : goal.returns-clause-skipped
returns-clause-skipped g c =
    let shown = c.in-Ok.page.now in
    let found = c.next_candidate-candidate in
    let are = c.lines_before-end.ensures in
    let end = c.lines_before-end.result.0 in
    let within : end ≤ length shown = omega (arith, are.within, found.ensures.within) in
    let rested = c.fill_buf.follows.lender-at-none in
    let filled = subst (FillKeeps _ (g.R.Read.remaining rested) (g.R.BufRead.consumable_len rested)) c.in-Ok.is c.fill_buf.follows.holds-at-none in
    let drops = c.consume.ensures.bytes in
    let moved = Consumes_shown _ _ _ _ shown end within c.in-Ok.ensures.front c.in-Ok.ensures.end filled.0 filled.1 drops in
    skip_page c.args.terminator (g.S.LineSelector.selects c.args.selector.now) shown found.result found.ensures.unselected end c.lines_before-end.result.1 are within _ _ moved.0
