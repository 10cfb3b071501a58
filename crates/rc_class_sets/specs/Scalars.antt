-- Only proofs use this file.
-- Ranges of code points, without the surrogates.
use Rattle.std.specs.Prelude.{List, [], ◌∷◌, ◌++◌, nat_le, min, max, if◌then◌else◌}
use Rattle.rc_pattern.specs.Re.{Range}

abbrev pub below_surrogates : Range → List Range
below_surrogates r = if nat_le r.0 0xD7FF then (r.0, min r.1 0xD7FF) ∷ [] else []

abbrev pub above_surrogates : Range → List Range
above_surrogates r = if nat_le 0xE000 r.1 then (max r.0 0xE000, r.1) ∷ [] else []

abbrev pub cut : List Range → List Range
cut [] = []
cut (r ∷ rs) = below_surrogates r ++ (above_surrogates r ++ cut rs)
