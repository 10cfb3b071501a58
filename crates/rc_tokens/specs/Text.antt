-- Texts, and steps that may refuse.
use Rattle.std.specs.Prelude.{ℕ, ◌+◌, ◌*◌, Bool, true, false, ◌&&◌, ◌||◌, ◌==◌, nat_le, nat_lt, List, [], ◌∷◌, Option, Some, None}
use Rattle.std.specs.Char.{digit_value}

-- characters
abbrev pub Characters : Type 0
Characters = List ℕ

-- one step after another, where each may refuse
infixl 10 ◌>>=◌
abbrev pub ◌>>=◌ : {A B : Type 0} → Option A → (A → Option B) → Option B
None >>= f = None
Some a >>= f = f a

-- goes on only if the test holds
infixl 10 ◌>>◌
abbrev pub ◌>>◌ : {B : Type 0} → Bool → Option B → Option B
false >> rest = None
true >> rest = rest

-- the text begins with this character
abbrev pub is_at : ℕ → Characters → Bool
is_at d [] = false
is_at d (c ∷ t) = c == d

abbrev pub is_empty : Characters → Bool
is_empty [] = true
is_empty (c ∷ t) = false

abbrev pub each : (ℕ → Bool) → Characters → Bool
each test [] = true
each test (c ∷ t) = test c && each test t

abbrev pub same_text : Characters → Characters → Bool
same_text [] t = is_empty t
same_text (c ∷ s) [] = false
same_text (c ∷ s) (d ∷ t) = c == d && same_text s t

-- the character stands twice side by side
abbrev pub has_twice : ℕ → Characters → Bool
has_twice c [] = false
has_twice c (d ∷ t) = (d == c && is_at c t) || has_twice c t

-- an ASCII letter
abbrev pub is_letter : ℕ → Bool
is_letter c = (nat_le 65 c && nat_le c 90) || (nat_le 97 c && nat_le c 122)

abbrev pub is_digit : ℕ → Bool
is_digit c = nat_le 48 c && nat_le c 57

abbrev pub is_digit_of : ℕ → ℕ → Bool
is_digit_of radix c = nat_lt (digit_value c) radix

abbrev pub value_from : ℕ → ℕ → Characters → ℕ
value_from radix n [] = n
value_from radix n (d ∷ ds) = value_from radix (n * radix + digit_value d) ds

-- the number that the digits write: one digit or more, and below the limit
abbrev pub number : ℕ → ℕ → Characters → Option ℕ
number radix limit [] = None
number radix limit (d ∷ ds) =
    (each (is_digit_of radix) (d ∷ ds) && nat_lt (value_from radix 0 (d ∷ ds)) limit) >> Some (value_from radix 0 (d ∷ ds))

-- a character's code is no surrogate
abbrev pub is_scalar : ℕ → Bool
is_scalar c = nat_lt c 0xD800 || (nat_le 0xE000 c && nat_lt c 0x110000)
