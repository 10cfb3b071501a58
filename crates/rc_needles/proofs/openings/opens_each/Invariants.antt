use Rattle.std.proofs.Common.{◌≡◌, ◌<◌, ℕ, true}
use Rattle.rc_needles.specs.Openings.{opens}
use Rattle.rc_needles.proofs.openings.opens_each.Given as goal

abbrev pub invariant-loop-third : goal.invariant-loop-third
invariant-loop-third l = (c : ℕ) → c < l.third → opens l.words l.first l.second c ≡ true
