-- Only proofs use this file.
-- What a scalar tells of the byte with which it begins or ends.
use Rattle.std.specs.Prelude.{◌≡◌, ℕ, ◌+◌, ◌-◌, ◌<◌, ◌≤◌, ◌==◌, Bool, true, false, List, drop, Option, Some, None, if◌then◌else◌}
use Rattle.rc_program.specs.Looks.{is_word_scalar}
use Rattle.rc_program.specs.Scalars.{scalar_at}
use Rattle.rc_dfa.specs.declared.symbols.Tagged.{Tagged}
use Rattle.rc_dfa.specs.declared.symbols.Tagged.TheVariants.{Neither, First, Last}
use Rattle.rc_table_search.specs.declared.scalars.Scalar.{Scalar}

-- Of the first of its bytes, if there is one.
abbrev pub first_of_scalar : Option (ℕ × ℕ) → Tagged
first_of_scalar None = Neither
first_of_scalar (Some s) = First (is_word_scalar s.0)

-- Of the last.
abbrev pub last_of_scalar : Option ℕ → Tagged
last_of_scalar None = Neither
last_of_scalar (Some c) = Last (is_word_scalar c)

-- A SCALAR OF A PIECE

-- The piece has the scalar whole.
pub record IsWhole (piece : List ℕ) (s : Scalar) : Type 0 where
  pub code : ℕ
  pub count : ℕ
  pub is : scalar_at (drop s.first piece) ≡ Some (code, count)
  pub end : s.end ≡ s.first + count
  pub is_word : s.is_word ≡ is_word_scalar code

-- The byte at the place is one of its own.
abbrev pub Has : Scalar → ℕ → Type 0
Has s place = (s.first ≤ place) × (place < s.end)

-- What it tells of that byte, if it has more than one.
abbrev pub tag_in : Scalar → ℕ → Tagged
tag_in s place = if place == s.first then First s.is_word else if place + 1 == s.end then Last s.is_word else Neither

-- The place at which it is read first, that after its byte that is read last, and how many of its
-- bytes are left to read at a place.
abbrev pub entry_of : Bool → Scalar → ℕ
entry_of false s = s.first
entry_of true s = s.end

abbrev pub exit_of : Bool → Scalar → ℕ
exit_of false s = s.end
exit_of true s = s.first

abbrev pub rest_of : Bool → Scalar → ℕ → ℕ
rest_of false s place = s.end - place
rest_of true s place = place - s.first

-- What it tells of its byte that is read first, and the other way of that which is read last.
abbrev pub near_of : Bool → Scalar → Tagged
near_of false s = First s.is_word
near_of true s = Last s.is_word
