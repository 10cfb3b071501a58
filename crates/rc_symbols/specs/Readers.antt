-- Readers of symbols: they decode a scalar at its first byte, or backwards at its last, and count
-- down the bytes that are left.
use Rattle.std.specs.Prelude.{◌≡◌, ℕ, ◌+◌, ◌-◌, ◌<◌, ◌≤◌, ◌==◌, Bool, List, Option, Some, None, length, slice_get, encode_utf8, if◌then◌else◌}
use Rattle.std.specs.Option.{option_map}
use Rattle.rc_program.specs.Looks.{is_word_scalar}
use Rattle.rc_program.specs.Scalars.{scalar_at, scalar_before}
use Rattle.rc_program.specs.Text.{Text, behind, beyond}
use Rattle.rc_symbols.specs.Symbols.{Tag, Symbol, IsSymbolAt, IsScalarAt, BeginsScalar}

-- How many bytes of a scalar are left, and whether it is a word character. None: no byte is left.
abbrev pub Left : Type 0
Left = Option (ℕ × Bool)

-- What is known of a byte: the tag of the scalar of which it is read first, that of the one of which
-- it is read last, and what is left behind it.
pub record Reading : Type 0 where
  pub first : Tag
  pub last : Tag
  pub left : Left

-- So many bytes are left of a scalar, this one among them.
abbrev pub count_down : ℕ → Bool → Tag → Reading
count_down left word first = record { first = first; last = if left == 1 then Some word else None; left = if left == 1 then None else Some (left - 1, word) }

-- A byte, if so much was left, and this scalar of so many bytes is decoded where nothing was.
abbrev pub read : Left → Option (ℕ × ℕ) → Reading
read (Some p) decoded = count_down p.0 p.1 None
read None (Some s) = count_down s.1 (is_word_scalar s.0) (Some (is_word_scalar s.0))
read None None = record { first = None; last = None; left = None }

-- The position is between two bytes of the scalar.
pub record IsCut (t : Text) (i j c n : ℕ) : Type 0 where
  pub is : IsScalarAt t j c n
  pub begins : j < i
  pub ends : i < j + n

-- What is left at a position: forwards of the bytes from there on, backwards of those before it.
abbrev pub IsLeftAhead : Text → ℕ → Left → Type 0
IsLeftAhead t i None = (j c n : ℕ) → ¬ IsCut t i j c n
IsLeftAhead t i (Some p) = (j : ℕ) × (c : ℕ) × (n : ℕ) × IsCut t i j c n × (i + p.0 ≡ j + n) × (p.1 ≡ is_word_scalar c)

abbrev pub IsLeftBehind : Text → ℕ → Left → Type 0
IsLeftBehind t i None = (j c n : ℕ) → ¬ IsCut t i j c n
IsLeftBehind t i (Some p) = (j : ℕ) × (c : ℕ) × (n : ℕ) × IsCut t i j c n × (j + p.0 ≡ i) × (p.1 ≡ is_word_scalar c)

-- The scalar that ends the bytes, and how many bytes it takes.
abbrev pub scalar_back : List ℕ → Option (ℕ × ℕ)
scalar_back bs = option_map (λ c. (c, length (encode_utf8 c))) (scalar_before bs)

-- The law of readers.
pub record ReaderLaw : Type 0 where
  -- Forwards from the slice's start nothing is left.
  pub starts : (t : Text) → IsLeftAhead t t.slice_start None
  pub reads : (t : Text) (i : ℕ) (left : Left) (y : Symbol) → IsLeftAhead t i left → IsSymbolAt t i y →
      (y.opens ≡ (read left (scalar_at (beyond t i))).first) × (y.shuts ≡ (read left (scalar_at (beyond t i))).last)
      × IsLeftAhead t (i + 1) (read left (scalar_at (beyond t i))).left
  -- Only ASCII bytes and those from C2 to F4 need decoding.
  pub decodes : (t : Text) (i b : ℕ) → t.slice_start ≤ i → slice_get t.content i ≡ Some b → ¬ BeginsScalar b → scalar_at (beyond t i) ≡ None
  -- A scalar that is cut at a position begins at most three bytes before it, and ends as near.
  pub near : (t : Text) (i j c n : ℕ) → IsCut t i j c n → (i ≤ j + 3) × (j + n ≤ i + 3)
  -- Backwards from the slice's end nothing is left.
  pub starts_back : (t : Text) → IsLeftBehind t t.slice_end None
  pub reads_back : (t : Text) (i : ℕ) (left : Left) (y : Symbol) → t.slice_end ≤ length t.content → IsLeftBehind t (i + 1) left → IsSymbolAt t i y →
      (y.shuts ≡ (read left (scalar_back (behind t (i + 1)))).first) × (y.opens ≡ (read left (scalar_back (behind t (i + 1)))).last)
      × IsLeftBehind t i (read left (scalar_back (behind t (i + 1)))).left
