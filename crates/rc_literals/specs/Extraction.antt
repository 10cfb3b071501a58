-- Prefix literals: those that are extracted from a pattern.
use Rattle.std.specs.Prelude.{◌≡◌, ℕ, zero, suc, ◌+◌, ◌-◌, ◌*◌, Bool, true, false, ◌&&◌, ◌||◌, List, [], ◌∷◌, ◌++◌, length, map, min, take, Option, Some, None, unwrap_or, nat_lt, nat_le, encode_utf8, if◌then◌else◌}
use Rattle.std.specs.List.{filter, flat_map, range_with_len}
use lib.Utf8.{scalar}
use Rattle.rc_pattern.specs.Re.{Re, Range, empty, literal, byte_in, char_in, look, repeat, capture, cat, alt, none}

-- The most prefixes that are kept.
abbrev pub greatest_count : ℕ
greatest_count = 16384

-- The most prefixes that are kept if one of them is short.
abbrev pub greatest_few : ℕ
greatest_few = 64

-- The most texts of a pattern that are kept whole.
abbrev pub greatest_whole : ℕ
greatest_whole = 64

-- A shorter needle is lengthened by what is read after it.
abbrev pub short_length : ℕ
short_length = 3

-- The most needles that lengthening may make.
abbrev pub greatest_variants : ℕ
greatest_variants = 32

-- The most bytes of a literal that are kept.
abbrev pub greatest_length : ℕ
greatest_length = 32

-- The numbers from one end of the range to the other.
abbrev pub numbers_of : Range → List ℕ
numbers_of r = range_with_len r.0 (r.1 + 1 - r.0)

-- Each byte of a range.
abbrev pub range_bytes : Range → List (List ℕ)
range_bytes r = map (λ b. b ∷ []) (numbers_of r)

-- Each scalar of a range, as UTF-8.
abbrev pub range_chars : Range → List (List ℕ)
range_chars r = map encode_utf8 (filter scalar (numbers_of r))

-- An assertion or empty.
abbrev pub is_still : Re → Bool
is_still empty = true
is_still (look l) = true
is_still _ = false

-- The prefixes of both, if both have some.
abbrev pub both : Option (List (List ℕ)) → Option (List (List ℕ)) → Option (List (List ℕ))
both None ws = None
both (Some vs) None = None
both (Some vs) (Some ws) = Some (vs ++ ws)

-- The list with these at its end, one after another, if there is room for each. It takes so many.
abbrev pub filled : ℕ → List (List ℕ) → List (List ℕ) → Option (List (List ℕ))
filled most list [] = Some list
filled most list (w ∷ ws) = if nat_lt (length list) most then filled most (list ++ w ∷ []) ws else None

-- The list with what is added, if that is known and there is room for it.
abbrev pub grown : ℕ → List (List ℕ) → Option (List (List ℕ)) → Option (List (List ℕ))
grown most list None = None
grown most list (Some ws) = filled most list ws

-- Each text that is spelled by literals and classes, in groups and alternations as they come. None
-- for other patterns, and if a literal is too long to be kept.
abbrev pub spelled_bytes : Re → Option (List (List ℕ))
spelled_bytes (literal bs) = if nat_le (length bs) greatest_length then Some (bs ∷ []) else None
spelled_bytes (byte_in rs) = Some (flat_map range_bytes rs)
spelled_bytes (char_in rs) = Some (flat_map range_chars rs)
spelled_bytes (capture n name a) = spelled_bytes a
spelled_bytes (alt a rest) = both (spelled_bytes a) (spelled_bytes rest)
spelled_bytes none = Some []
spelled_bytes _ = None

-- Each text that the pattern spells, if all of it can be kept.
abbrev pub whole_bytes : Re → Option (List (List ℕ))
whole_bytes a = grown greatest_whole [] (spelled_bytes a)

-- Each of the first list with each of the second after it.
abbrev pub crossed : List (List ℕ) → List (List ℕ) → List (List ℕ)
crossed ws vs = flat_map (λ w. map (λ v. w ++ v) vs) ws

-- One of the needles is short.
abbrev pub has_short : List (List ℕ) → Bool
has_short [] = false
has_short (w ∷ ws) = nat_lt (length w) short_length || has_short ws

-- They are many, and one of them is short.
abbrev pub are_too_many : List (List ℕ) → Bool
are_too_many ws = nat_lt greatest_few (length ws) && has_short ws

-- One of them is short, and there are few enough once each has each of the others after it.
abbrev pub may_cross : List (List ℕ) → Option (List (List ℕ)) → Bool
may_cross ws None = false
may_cross ws (Some vs) = has_short ws && nat_le (length ws * length vs) greatest_variants

-- The needles with what is read after them: one part after another that is kept whole, as long as
-- one needle is short and there are few enough.
abbrev pub lengthened : List (List ℕ) → Re → List (List ℕ)
lengthened ws (cat a rest) =
    if may_cross ws (whole_bytes a) then lengthened (crossed ws (unwrap_or (whole_bytes a) [])) rest else ws
lengthened ws _ = ws

-- The needles of what is read first with what is read after them; or the prefixes of what is read
-- first, if that isn't kept whole.
abbrev pub begun_by : Option (List (List ℕ)) → Option (List (List ℕ)) → Re → Option (List (List ℕ))
begun_by None first rest = first
begun_by (Some ws) first rest = Some (lengthened ws rest)

-- The most copies that are read after the first of what is repeated.
abbrev pub greatest_copies : ℕ
greatest_copies = 31

-- One of the needles is short, or the texts are one, and there are few enough once each needle has each
-- of the texts after it.
abbrev pub may_copy : List (List ℕ) → List (List ℕ) → Bool
may_copy ws vs = (has_short ws || nat_le (length vs) 1) && nat_le (length ws * length vs) greatest_variants

-- The needles with so many copies of the texts after them, as long as one needle is short or the texts
-- are one, and there are few enough.
abbrev pub copied : List (List ℕ) → List (List ℕ) → ℕ → List (List ℕ)
copied ws vs zero = ws
copied ws vs (suc n) = if may_copy ws vs then copied (crossed ws vs) vs n else ws

-- The needles of what is read once and so many times more; or its prefixes, if it isn't kept whole.
abbrev pub begun_again : Option (List (List ℕ)) → Option (List (List ℕ)) → ℕ → Option (List (List ℕ))
begun_again None first more = first
begun_again (Some vs) first more = Some (copied vs vs (min more greatest_copies))

-- The beginnings of the texts that the pattern spells: the literals and classes that may be read
-- first. None if an optional body, a large class, or nothing but assertions may come first.
abbrev pub first_bytes : Re → Option (List (List ℕ))
first_bytes empty = None
first_bytes (literal bs) = Some (take greatest_length bs ∷ [])
first_bytes (byte_in rs) = whole_bytes (byte_in rs)
first_bytes (char_in rs) = whole_bytes (char_in rs)
first_bytes (look l) = None
first_bytes (repeat zero max greedy a) = None
first_bytes (repeat (suc more) max greedy a) = begun_again (whole_bytes a) (first_bytes a) more
first_bytes (capture n name a) = first_bytes a
first_bytes (cat a rest) = if is_still a then first_bytes rest else begun_by (whole_bytes a) (first_bytes a) rest
first_bytes (alt a rest) = both (first_bytes a) (first_bytes rest)
first_bytes none = Some []

-- If it is done, the new list is the old one with these prefixes. If it isn't, there are none, or
-- there is no room for them in a list that takes so many.
abbrev pub Extends : ℕ → Bool → List (List ℕ) → List (List ℕ) → Option (List (List ℕ)) → Type 0
Extends most done old new found = grown most old found ≡ (if done then Some new else None)
