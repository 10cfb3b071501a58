use Rattle.std.proofs.Common.{◌≡◌, ◌≤◌, IfSome}
use Rattle.grep_lines.specs.Ahead.{IsPlaced, IsSound, Stands}
use Rattle.grep_lines.proofs.context.print_selected.Given as goal

-- the lines so far were read, and printed as far as they can be told
abbrev pub invariant-loop : goal.invariant-loop
invariant-loop g l = record {
  sound : IsSound l.extent l.progress;
  placed : IsPlaced l.progress;
  same : g.S.LineSelector.selects l.selector ≡ g.S.LineSelector.selects l.initial.selector;
  few : l.count ≤ l.extent.most;
  stands :
      IfSome (g.R.Read.remaining l.initial.reader)
      (Stands l.fn.terminator l.extent (λ _. g.S.LineSelector.selects l.initial.selector) l.progress (g.P.LinePrinter.printed l.initial.printer) (g.P.LinePrinter.printed l.printer)
      (g.R.Read.remaining l.reader) l.count 0);
}
