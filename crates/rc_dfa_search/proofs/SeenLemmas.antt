-- How many bytes decide what a search read, by what it reads.
use Rattle.std.specs.Prelude.{ℕ, ◌≤◌}
use Rattle.std.proofs.Common.{arith}
use Rattle.rc_dfa.specs.Machine.{Alphabet, bytes, symbols}
use Rattle.rc_dfa_reach.specs.RunReach.{seen_to}

-- no fewer than it read
pub seen_past : (a : Alphabet) (r : ℕ) → r ≤ seen_to a r
seen_past bytes r = omega arith
seen_past symbols r = omega arith

-- and no fewer if it read on
pub seen_more : (a : Alphabet) (q r : ℕ) → q ≤ r → seen_to a q ≤ seen_to a r
seen_more bytes q r h = h
seen_more symbols q r h = omega (arith, h)
