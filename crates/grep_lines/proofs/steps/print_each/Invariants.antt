use Rattle.std.proofs.Common.{◌≡◌, length}
use Rattle.grep_lines.specs.Blocks.{IsPrinting}
use Rattle.grep_lines.proofs.steps.print_each.Given as goal

-- the lines so far were printed
abbrev pub invariant-loop-end : goal.invariant-loop-end
invariant-loop-end g l = record {
  same : g.S.LineSelector.selects l.selector ≡ g.S.LineSelector.selects l.initial.selector;
  printing :
      IsPrinting l.fn.terminator l.fn.first l.fn.begin l.fn.text (g.P.LinePrinter.printed l.initial.printer) (g.P.LinePrinter.printed l.printer) l.number l.place l.left;
}

abbrev pub decreases-loop-end : goal.decreases-loop-end
decreases-loop-end g l = length l.left
