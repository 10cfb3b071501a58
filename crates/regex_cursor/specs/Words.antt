-- The words that a program is called with.
use Rattle.std.specs.Prelude.{◌≡◌, ℕ, ◌≤◌, List, [], ◌∷◌, map}
use Rattle.std.specs.Borrow.{Bor}
use Rattle.std.specs.Str.Parse.{IsNumeral, digits_value}

-- The word is digits alone, and writes a number from 1 to 1,048,576.
pub record IsLength (word : List ℕ) : Type 0 where
  pub digits : IsNumeral 10 word
  pub some : 1 ≤ digits_value 10 word
  pub small : digits_value 10 word ≤ 1048576

-- The words are a text and the length of a chunk.
abbrev pub AreWords : List (Bor (List ℕ)) → List ℕ → Type 0
AreWords words text = (chunk : List ℕ) × (map (λ w. w.now) words ≡ text ∷ chunk ∷ []) × IsLength chunk
