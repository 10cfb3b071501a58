-- Texts as patterns.
use Rattle.std.specs.Prelude.{◌≡◌, ℕ, ◌<◌, ◌≤◌, Bool, ◌||◌, ◌==◌, List, [], ◌∷◌, IsUtf8, length, take, if◌then◌else◌}
use Rattle.std.specs.List.{flat_map}
use Rattle.zorfelith_c.specs.Names.{TellsAs}

-- the character means something in a pattern: one of `\.+*?()|[{^$`
abbrev pub is_special : ℕ → Bool
is_special b =
    b == 92 || b == 46 || b == 43 || b == 42 || b == 63 || b == 40 || b == 41 || b == 124 || b == 91 || b == 123 || b == 94 || b == 36

-- the byte as a pattern has it: behind a `\` if it means something there
abbrev pub escaped_byte : ℕ → List ℕ
escaped_byte b = if is_special b then 92 ∷ b ∷ [] else b ∷ []

-- the text as a pattern
abbrev pub escaped : List ℕ → List ℕ
escaped text = flat_map escaped_byte text

-- the pattern stands in the first bytes of its place
pub record IsEscaped (text place : List ℕ) (len : ℕ) : Type 0 where
  pub text_is : IsUtf8 text
  pub written : take len place ≡ escaped text
  pub measured : len ≡ length (escaped text)
  pub fits : len ≤ length place

-- the pattern is longer than its place
pub record IsOverlong (text place : List ℕ) (len : ℕ) : Type 0 where
  pub text_is : IsUtf8 text
  pub needed : len ≡ length (escaped text)
  pub longer : length place < len

-- the text as a pattern: 0, it was written; 6, it is longer than its place; 7, the text isn't UTF-8
abbrev pub TellsEscaped : List ℕ → ℕ → List ℕ → ℕ → Type 0
TellsEscaped text status place len = TellsAs (IsEscaped text place len) ⊥ (IsOverlong text place len) (¬ IsUtf8 text) status
