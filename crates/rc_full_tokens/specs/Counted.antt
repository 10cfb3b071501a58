-- Only proofs use this file.
-- The count at the front of a text, in the order in which its reader tests.
use Rattle.std.specs.Prelude.{◌≡◌, ℕ, Bool, not, ◌&&◌, nat_le, drop, List, Option, Some, None, MatchOption, if◌then◌else◌}
use Rattle.std.specs.Borrow.{Bor}
use Rattle.unicode.specs.Binary.{is_white_space}
use Rattle.rc_tokens.specs.Text.{Characters, ◌>>=◌, ◌>>◌, is_at, is_digit}
use Rattle.rc_tokens.specs.Marks.{count}
use Rattle.rc_tokens.specs.Lexer.{run, after_run}

abbrev pub Amount : Type 0
Amount = (ℕ × Option ℕ) × Characters

abbrev pub blanks_passed : Characters → Characters
blanks_passed = after_run is_white_space

-- in a text that begins with no white space
abbrev pub digits_then : Characters → Option (ℕ × Characters)
digits_then t = count (run is_digit t) >>= λ n. Some (n, blanks_passed (after_run is_digit t))

abbrev pub read_number : Characters → Option (ℕ × Characters)
read_number t = digits_then (blanks_passed t)

-- behind the comma
abbrev pub second : ℕ → Characters → Option Amount
second min t = read_number t >>= λ r. (is_at 125 r.1 && nat_le min r.0) >> Some ((min, Some r.0), drop 1 r.1)

-- behind the first number
abbrev pub counted_from : ℕ → Characters → Option Amount
counted_from min t =
    if is_at 125 t then Some ((min, Some min), drop 1 t)
    else if not (is_at 44 t) then None
    else if is_at 125 (drop 1 t) then Some ((min, None), drop 1 (drop 1 t))
    else second min (drop 1 t)

abbrev pub read_count : Bool → Characters → Option Amount
read_count empty_min t =
    if empty_min && is_at 44 (blanks_passed t) then second 0 (drop 1 (blanks_passed t))
    else read_number t >>= λ r. counted_from r.0 r.1

-- the reader found what the definition gives
abbrev pub Counts : Option ((ℕ × Option ℕ) × Bor (List ℕ)) → Option Amount → Type 0
Counts r o = MatchOption r (o ≡ None) (λ p. o ≡ Some (p.0, p.1.now))

abbrev pub Numbers : Option (ℕ × Bor (List ℕ)) → Option (ℕ × Characters) → Type 0
Numbers r o = MatchOption r (o ≡ None) (λ p. o ≡ Some (p.0, p.1.now))
