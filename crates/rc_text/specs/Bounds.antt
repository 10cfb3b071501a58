-- Where a match lies.
use Rattle.std.specs.Prelude.{◌≤◌}
use Rattle.rc_text.specs.Found.{Found}
use Rattle.rc_text.specs.Text.{Searched, high, low}

-- the match lies between the bounds of the search, and ends where it starts or behind
abbrev pub IsWithinBounds : Searched → Found → Type 0
IsWithinBounds s m = (low s ≤ m.start) × (m.start ≤ m.end) × (m.end ≤ high s)
