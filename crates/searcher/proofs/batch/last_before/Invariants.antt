use Rattle.std.proofs.Common.{◌≡◌}
use Rattle.searcher.specs.Last.{last_before}
use Rattle.searcher.proofs.batch.last_before.Given as goal

-- the last of the matches so far, each of which begins before the place
abbrev pub invariant-loop-found : goal.invariant-loop-found
invariant-loop-found g l = l.last ≡ last_before l.place l.yielded
