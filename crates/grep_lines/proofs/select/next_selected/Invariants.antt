use Rattle.std.proofs.Common.{◌≡◌, IfSome}
use Rattle.grep_lines.specs.Selected.{AreSkipped}
use Rattle.grep_lines.proofs.select.next_selected.Given as goal

-- the lines so far were skipped
abbrev pub invariant-loop : goal.invariant-loop
invariant-loop g l = record {
  left : IfSome (g.R.Read.remaining l.initial.reader) (λ text. AreSkipped l.fn.terminator (g.S.LineSelector.selects l.initial.selector) text l.before (g.R.Read.remaining l.reader));
  same : g.S.LineSelector.selects l.selector ≡ g.S.LineSelector.selects l.initial.selector;
}
