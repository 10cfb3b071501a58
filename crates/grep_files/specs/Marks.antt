-- Only proofs and the contracts of private functions use this file.
use Rattle.std.specs.Prelude.{ℕ, Bool, List, [], ◌∷◌, ◌++◌}
use Rattle.grep_files.specs.Globs.{fits}

-- of each end of a name, the shortest first, whether the glob fits it
abbrev pub marks : (glob name : List ℕ) → List Bool
marks glob [] = fits glob [] ∷ []
marks glob (b ∷ name) = marks glob name ++ fits glob (b ∷ name) ∷ []
