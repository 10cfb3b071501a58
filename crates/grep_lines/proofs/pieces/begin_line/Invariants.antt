use Rattle.std.proofs.Common.{IfSome}
use Rattle.grep_lines.specs.Pieces.{BeginsLine}
use Rattle.grep_lines.proofs.pieces.begin_line.Given as goal

-- the first bytes of a line were read
abbrev pub invariant-loop : goal.invariant-loop
invariant-loop g l =
    IfSome (g.R.Read.remaining l.initial.reader) (λ text. BeginsLine l.fn.terminator text l.line.items (g.R.Read.remaining l.reader))
