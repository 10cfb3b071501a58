-- UTF-8: which scalar begins some bytes, and which ends them. A law says that these are the scalars
-- of UTF-8.
use Rattle.std.specs.Prelude.{◌≡◌, ◌↔◌, ℕ, ◌+◌, ◌-◌, ◌*◌, Bool, ◌&&◌, List, [], ◌∷◌, ◌++◌, length, drop, Option, Some, None, nat_le, nat_lt, if◌then◌else◌, ◌==◌, encode_utf8}
use Rattle.std.specs.Option.{option_or}
use Rattle.std.specs.Char.{IsScalar}
use lib.Utf8.{scalar}

-- The byte is a continuation byte.
abbrev pub continues : ℕ → Bool
continues b = nat_le 128 b && nat_lt b 192

-- The scalar of that many bytes, unless it is below `least`.
abbrev pub in_bytes : ℕ → ℕ → ℕ → Option (ℕ × ℕ)
in_bytes count least c = if nat_le least c && scalar c then Some (c, count) else None

abbrev pub of_two : ℕ → List ℕ → Option (ℕ × ℕ)
of_two a (b ∷ bs) = if continues b then in_bytes 2 0x80 (a * 64 + (b - 128)) else None
of_two a _ = None

abbrev pub of_three : ℕ → List ℕ → Option (ℕ × ℕ)
of_three a (b ∷ c ∷ bs) = if continues b && continues c then in_bytes 3 0x800 ((a * 64 + (b - 128)) * 64 + (c - 128)) else None
of_three a _ = None

abbrev pub of_four : ℕ → List ℕ → Option (ℕ × ℕ)
of_four a (b ∷ c ∷ d ∷ bs) =
    if continues b && continues c && continues d then in_bytes 4 0x1_0000 (((a * 64 + (b - 128)) * 64 + (c - 128)) * 64 + (d - 128)) else None
of_four a _ = None

-- The scalar that begins the bytes, and how many bytes it takes.
abbrev pub scalar_at : List ℕ → Option (ℕ × ℕ)
scalar_at [] = None
scalar_at (a ∷ bs) =
    if nat_lt a 128 then Some (a, 1)
    else if nat_lt a 192 then None
    else if nat_lt a 224 then of_two (a - 192) bs
    else if nat_lt a 240 then of_three (a - 224) bs
    else if nat_lt a 248 then of_four (a - 240) bs
    else None

-- The scalar that all of the bytes are.
abbrev pub whole_scalar : List ℕ → Option (ℕ × ℕ) → Option ℕ
whole_scalar bs None = None
whole_scalar bs (Some s) = if s.1 == length bs then Some s.0 else None

-- The scalar that the last `count` bytes are.
abbrev pub scalar_of_last : ℕ → List ℕ → Option ℕ
scalar_of_last count bs = whole_scalar (drop (length bs - count) bs) (scalar_at (drop (length bs - count) bs))

-- The scalar that ends the bytes.
abbrev pub scalar_before : List ℕ → Option ℕ
scalar_before bs = option_or (scalar_of_last 1 bs) (option_or (scalar_of_last 2 bs) (option_or (scalar_of_last 3 bs) (scalar_of_last 4 bs)))

-- The functions give the scalar whose bytes in UTF-8 begin, or end, the bytes.
pub record ScalarLaw : Type 0 where
  pub begins : (bs : List ℕ) (c n : ℕ) →
      (scalar_at bs ≡ Some (c, n)) ↔ (IsScalar c × (n ≡ length (encode_utf8 c)) × ((rest : List ℕ) × (bs ≡ encode_utf8 c ++ rest)))
  pub ends : (bs : List ℕ) (c : ℕ) →
      (scalar_before bs ≡ Some c) ↔ (IsScalar c × ((front : List ℕ) × (bs ≡ front ++ encode_utf8 c)))
