use Rattle.std.proofs.Common.{◌≡◌, ◌<◌, ◌≤◌, ℕ}
use Rattle.rc_pattern.specs.declared.hir.Look.{Look}
use Rattle.rc_program.specs.Places.{places_of}
use Rattle.rc_program.specs.Program.{guard, place_at}
use Rattle.rc_reach.specs.Reads.{looks_ahead}
use Rattle.rc_strategy.specs.Lookahead.{LookAhead}
use Rattle.rc_strategy.proofs.lookahead.most_looked_at.Given as goal

abbrev pub invariant-loop-place : goal.invariant-loop-place
invariant-loop-place l =
    ((q : ℕ) (k : Look) (n : ℕ) → q < l.place-index → place_at (places_of l.places) q ≡ guard k n → looks_ahead k ≤ l.most)
    × ((b : ℕ) → LookAhead b (places_of l.places) → l.most ≤ b)
