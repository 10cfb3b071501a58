-- Only proofs use this file.
-- Look-around: sides of a position on which no byte past ASCII is.
use Rattle.std.specs.Prelude.{◌≡◌, ◌<◌, Some}
use Rattle.rc_program.specs.Looks.{Side, nothing, stands}

abbrev pub IsPlain : Side → Type 0
IsPlain nothing = Unit {0}
IsPlain (stands b c) = (b < 128) × (c ≡ Some b)
