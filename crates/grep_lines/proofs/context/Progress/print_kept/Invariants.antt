use Rattle.std.proofs.Common.{◌≡◌, ◌+◌, length}
use Rattle.grep_lines.specs.Ahead.{Flushes, IsPlaced, IsSound}
use Rattle.grep_lines.proofs.context.Progress.print_kept.Given as goal

-- some of the kept lines were printed
abbrev pub invariant-loop-line : goal.invariant-loop-line
invariant-loop-line g l = record {
  flushed : Flushes l.fn.extent l.initial.self l.self (g.P.LinePrinter.printed l.initial.printer) (g.P.LinePrinter.printed l.printer);
  sound : IsSound l.fn.extent l.self;
  placed : IsPlaced l.self;
  same : g.S.LineSelector.selects l.selector ≡ g.S.LineSelector.selects l.initial.selector;
  sum : l.self.next + length l.self.kept.items ≡ l.initial.self.next + length l.initial.self.kept.items;
}

abbrev pub decreases-loop-line : goal.decreases-loop-line
decreases-loop-line g l = length l.self.kept.items
