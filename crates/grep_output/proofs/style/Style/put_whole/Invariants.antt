use Rattle.std.proofs.Common.{◌≡◌}
use Rattle.grep_output.proofs.style.Style.put_whole.Given as goal

-- the finder selects as before
abbrev pub invariant-loop-found : goal.invariant-loop-found
invariant-loop-found g l = g.F.LineSelector.selects l.finder ≡ g.F.LineSelector.selects l.initial.finder
