-- Tests of characters.
use Rattle.std.specs.Prelude.{ℕ, Bool, not, ◌==◌}

abbrev pub is_not : ℕ → ℕ → Bool
is_not d c = not (c == d)
