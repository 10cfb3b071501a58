use Rattle.std.proofs.Common.{◌≡◌, ◌+◌, length}
use Rattle.grep_lines.specs.Ahead.{IsPlaced, IsSound}
use Rattle.grep_lines.specs.Blocks.{IsTaking}
use Rattle.grep_lines.specs.Lines.{lines}
use Rattle.grep_lines.proofs.context.Progress.take_each.Given as goal

-- the lines so far were taken
abbrev pub invariant-loop-end : goal.invariant-loop-end
invariant-loop-end g l = record {
  sound : IsSound l.fn.plan.extent l.self;
  placed : IsPlaced l.self;
  same : g.S.LineSelector.selects l.selector ≡ g.S.LineSelector.selects l.initial.selector;
  counted : l.rest ≡ length (lines l.fn.plan.terminator l.left);
  next : l.self.next + length l.self.kept.items + l.rest ≡ l.initial.self.next + length l.initial.self.kept.items + l.fn.count;
  taking :
      IsTaking l.fn.plan.terminator l.fn.plan.extent l.initial.self l.self (g.P.LinePrinter.printed l.initial.printer) (g.P.LinePrinter.printed l.printer) l.fn.text l.left;
}

abbrev pub decreases-loop-end : goal.decreases-loop-end
decreases-loop-end g l = length l.left
