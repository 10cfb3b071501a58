use Rattle.std.proofs.Common.{All}
use Rattle.rc_explain.specs.Shown.{Stands}
use Rattle.rc_explain.proofs.full_lists.list_end.Given as goal

abbrev pub invariant-loop : goal.invariant-loop
invariant-loop l = All (λ at. Stands l.mark at 91) l.opens.items
