use Rattle.std.specs.Prelude.{All, string_bytes}
use Rattle.grep_files.specs.Walks.{IsEntry}
use Rattle.grep_files.proofs.walk.Choice.paths_in.Given as goal

abbrev pub invariant-loop-entry : goal.invariant-loop-entry
invariant-loop-entry l = All (λ p. IsEntry l.self (string_bytes p)) l.paths.items
