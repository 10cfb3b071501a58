-- Pattern semantics: when a pattern spells the content from i to j, without places or ways.
use Rattle.std.specs.Prelude.{◌≡◌, ℕ, zero, suc, ◌+◌, ◌≤◌, ◌⊎◌, List, [], ◌∷◌, Option, Some, None, IsTrue, slice_get, encode_utf8}
use Rattle.std.specs.Char.{IsScalar}
use Rattle.rc_pattern.specs.Re.{Re, empty, literal, byte_in, char_in, look, repeat, capture, cat, alt, none}
use Rattle.rc_program.specs.Text.{Text, holds}
use Rattle.rc_program.specs.Program.{in_ranges}

-- n turns of R, end to end.
abbrev pub Turns : (ℕ → ℕ → Type 0) → ℕ → ℕ → ℕ → Type 0
Turns R zero i j = i ≡ j
Turns R (suc n) i j = (k : ℕ) × R i k × Turns R n k j

-- The content has these bytes from i to j.
abbrev pub Stands : List ℕ → List ℕ → ℕ → ℕ → Type 0
Stands content [] i j = i ≡ j
Stands content (b ∷ bs) i j = (slice_get content i ≡ Some b) × Stands content bs (i + 1) j

abbrev pub IsWithinMax : Option ℕ → ℕ → Type 0
IsWithinMax None n = Unit {0}
IsWithinMax (Some max) n = n ≤ max

abbrev pub Spells : Text → Re → ℕ → ℕ → Type 0
Spells t empty i j = i ≡ j
Spells t (literal bs) i j = Stands t.content bs i j
Spells t (byte_in rs) i j = (b : ℕ) × (slice_get t.content i ≡ Some b) × IsTrue (in_ranges rs b) × (j ≡ i + 1)
Spells t (char_in rs) i j = (c : ℕ) × IsScalar c × IsTrue (in_ranges rs c) × Stands t.content (encode_utf8 c) i j
Spells t (look l) i j = IsTrue (holds t l i) × (i ≡ j)
Spells t (repeat min max greedy a) i j = (n : ℕ) × (min ≤ n) × IsWithinMax max n × Turns (Spells t a) n i j
Spells t (capture n name a) i j = Spells t a i j
Spells t (cat a rest) i j = (k : ℕ) × Spells t a i k × Spells t rest k j
Spells t (alt a rest) i j = Spells t a i j ⊎ Spells t rest i j
Spells t none i j = ⊥

-- p is the number of a pattern that spells i to j, if the first has the number n.
abbrev pub SpelledBy : Text → ℕ → List Re → ℕ → ℕ → ℕ → Type 0
SpelledBy t n [] p i j = ⊥
SpelledBy t n (h ∷ hs) p i j = ((p ≡ n) × Spells t h i j) ⊎ SpelledBy t (n + 1) hs p i j
