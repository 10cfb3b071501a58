use Rattle.std.proofs.Common.{ℕ, ◌≡◌, ◌*◌, ◌+◌, ◌≤◌, length, IfSome}
use Rattle.grep_lines.specs.Ahead.{IsPlaced, IsSound, Stands}
use Rattle.grep_lines.specs.Touched.{left_at, picks_touched}
use Rattle.grep_lines.proofs.touched.print_touched.Given as goal

-- the lines so far were read, and printed as far as they can be told; spans that end before the next line were passed over
abbrev pub invariant-loop : goal.invariant-loop
invariant-loop g l = record {
  sound : IsSound l.extent l.progress;
  placed : IsPlaced l.progress;
  same : g.S.LineSelector.selects l.selector ≡ g.S.LineSelector.selects l.initial.selector;
  few : l.front.count ≤ l.extent.most;
  near : l.front.place ≤ (l.progress.next + length l.progress.kept.items) * 18446744073709551616;
  all : l.front.touched.now ≡ l.touched;
  left : (p : ℕ) → l.front.place ≤ p → left_at p l.front.spans.now ≡ left_at p l.touched.spans.now;
  stands :
      IfSome (g.R.Read.remaining l.initial.reader)
      (Stands l.fn.terminator l.extent (picks_touched l.touched.is_inverted l.touched.spans.now) l.progress (g.P.LinePrinter.printed l.initial.printer)
      (g.P.LinePrinter.printed l.printer) (g.R.Read.remaining l.reader) l.front.count l.front.place);
}
