use Rattle.std.specs.Option.{option_map}
use Rattle.grep_options.proofs.NearestLemmas.{Best}
use Rattle.grep_options.proofs.read.nearest.Given as goal

-- the nearest of the options so far
abbrev pub invariant-loop-entry : goal.invariant-loop-entry
invariant-loop-entry l = Best l.table l.entry-index l.name (option_map (λ n. n.now) l.best) l.least
