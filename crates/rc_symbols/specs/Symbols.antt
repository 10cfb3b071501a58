-- Symbols: the bytes of a text, with what is known of the scalars that begin and end with them.
use Rattle.std.specs.Prelude.{◌≡◌, ◌↔◌, ◌⊎◌, ℕ, ◌+◌, ◌<◌, ◌≤◌, ◌==◌, Bool, true, Option, Some, None, slice_get, length, if◌then◌else◌}
use Rattle.std.specs.Option.{option_map}
use Rattle.rc_program.specs.Looks.{Side, nothing, stands, is_word_scalar}
use Rattle.rc_program.specs.Scalars.{scalar_at, scalar_before, continues}
use Rattle.rc_program.specs.Text.{Text, before_at, after_at, behind, beyond}

-- Whether the scalar is a word character. None: there is no scalar.
abbrev pub Tag : Type 0
Tag = Option Bool

abbrev pub tag_of : Side → Tag
tag_of nothing = None
tag_of (stands b c) = option_map is_word_scalar c

-- A byte, with the tag of the scalar that begins with it, and of the one that ends with it.
pub record Symbol : Type 0 where
  pub byte : ℕ
  pub opens : Tag
  pub shuts : Tag

-- The symbol of the slice's byte at i.
pub record IsSymbolAt (t : Text) (i : ℕ) (y : Symbol) : Type 0 where
  pub inside : (t.slice_start ≤ i) × (i < t.slice_end)
  pub byte : slice_get t.content i ≡ Some y.byte
  pub opens : y.opens ≡ tag_of (after_at t i)
  pub shuts : y.shuts ≡ tag_of (before_at t (i + 1))

-- The scalar c takes n bytes of the slice, from j on.
pub record IsScalarAt (t : Text) (j c n : ℕ) : Type 0 where
  pub inside : t.slice_start ≤ j
  pub scalar : scalar_at (beyond t j) ≡ Some (c, n)

-- The scalar's bytes have the byte at i among them.
pub record IsAround (t : Text) (i j c n : ℕ) : Type 0 where
  pub is : IsScalarAt t j c n
  pub begins : j ≤ i
  pub ends : i < j + n

-- The first byte of a scalar is ASCII, or C2 to F4.
abbrev pub BeginsScalar : ℕ → Type 0
BeginsScalar b = (b < 128) ⊎ ((0xC2 ≤ b) × (b ≤ 0xF4))

-- The law of symbols.
pub record SymbolLaw : Type 0 where
  -- No byte belongs to two scalars.
  pub apart : (t : Text) (i j k c d n m : ℕ) → IsAround t i j c n → IsAround t i k d m → (j ≡ k) × (c ≡ d) × (n ≡ m)
  -- Which bytes begin a scalar, and which go on with one.
  pub first : (t : Text) (j c n b : ℕ) → IsScalarAt t j c n → slice_get t.content j ≡ Some b → BeginsScalar b × ((b < 128) ↔ (n ≡ 1))
  pub other : (t : Text) (i j c n b : ℕ) → IsAround t i j c n → j < i → slice_get t.content i ≡ Some b → continues b ≡ true
  -- Of a scalar's bytes the first begins it, the last ends it, and no other begins or ends any.
  pub opens : (t : Text) (i j c n : ℕ) (y : Symbol) → IsAround t i j c n → IsSymbolAt t i y →
      y.opens ≡ (if i == j then Some (is_word_scalar c) else None)
  pub shuts : (t : Text) (i j c n : ℕ) (y : Symbol) → IsAround t i j c n → IsSymbolAt t i y →
      y.shuts ≡ (if i + 1 == j + n then Some (is_word_scalar c) else None)
  -- A byte of no scalar neither begins nor ends one.
  pub strays : (t : Text) (i : ℕ) (y : Symbol) → ((j c n : ℕ) → ¬ IsAround t i j c n) → IsSymbolAt t i y → (y.opens ≡ None) × (y.shuts ≡ None)
  -- What ends before a position is a scalar of the slice.
  pub ends : (t : Text) (i c : ℕ) → i ≤ t.slice_end → t.slice_end ≤ length t.content →
      (scalar_before (behind t i) ≡ Some c) ↔ ((j : ℕ) × (n : ℕ) × IsScalarAt t j c n × (j + n ≡ i))
