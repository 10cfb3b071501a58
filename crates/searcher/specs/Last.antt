-- The last match before a place.
use Rattle.std.specs.Prelude.{ℕ, List, [], ◌∷◌, Option, None, Some, if◌then◌else◌, nat_lt}
use Rattle.std.specs.Option.{option_or}
use Rattle.rc_text.specs.Found.{Found}

-- the match, if it begins before the place
abbrev pub if_before : ℕ → Found → Option Found
if_before place m = if nat_lt m.start place then Some m else None

-- the last of the matches that begin before the place
abbrev pub last_before : ℕ → List Found → Option Found
last_before place [] = None
last_before place (m ∷ ms) = option_or (last_before place ms) (if_before place m)
