-- What is known of a pattern before any search.
use Rattle.std.specs.Prelude.{ℕ, zero, suc, ◌+◌, ◌*◌, ◌-◌, ◌^◌, min, max, Bool, true, false, not, ◌&&◌, ◌||◌, List, [], ◌∷◌, length, Option, Some, None, nat_eq, nat_le, if◌then◌else◌, option_and_then}
use Rattle.std.specs.Option.{option_map}
use Rattle.std.specs.Char.{len_utf8}
use Rattle.rc_pattern.specs.Re.{Re, Range, empty, literal, byte_in, char_in, look, repeat, capture, cat, alt, none}
use Rattle.rc_pattern.specs.declared.hir.Look.{Look}
use Rattle.rc_pattern.specs.declared.hir.Look.TheVariants.{Start, End, StartLF, EndLF, StartCRLF, EndCRLF, WordAscii, WordAsciiNegate, WordUnicode, WordUnicodeNegate, WordStartAscii, WordEndAscii, WordStartUnicode, WordEndUnicode, WordStartHalfAscii, WordEndHalfAscii, WordStartHalfUnicode, WordEndHalfUnicode}

-- the greatest usize
abbrev pub greatest_usize : ℕ
greatest_usize = 2 ^ 64 - 1

-- a number that stays at the greatest usize once there
abbrev pub saturated : ℕ → ℕ
saturated n = min n greatest_usize

-- a number above the greatest usize is none
abbrev pub capped : ℕ → Option ℕ
capped n = if nat_le n greatest_usize then Some n else None

-- what two numbers give, and none where one of them is none
abbrev pub both : (ℕ → ℕ → Option ℕ) → Option ℕ → Option ℕ → Option ℕ
both f None b = None
both f (Some m) None = None
both f (Some m) (Some n) = f m n

-- the lesser of those that are there
abbrev pub least : Option ℕ → Option ℕ → Option ℕ
least None b = b
least (Some m) None = Some m
least (Some m) (Some n) = Some (min m n)

abbrev pub is_zero : Option ℕ → Bool
is_zero None = false
is_zero (Some n) = nat_eq n 0

-- the least number of bytes of a scalar of the ranges
abbrev pub least_encoded : List Range → Option ℕ
least_encoded [] = None
least_encoded (r ∷ rs) = least (Some (len_utf8 r.0)) (least_encoded rs)

-- the greatest number of bytes of a scalar of the first range and of the others
abbrev pub greatest_encoded : Range → List Range → ℕ
greatest_encoded r [] = len_utf8 r.1
greatest_encoded r (q ∷ rs) = max (len_utf8 r.1) (greatest_encoded q rs)

-- the least number of bytes that the pattern spells; none where it spells nothing at all
abbrev pub minimum_len : Re → Option ℕ
minimum_len empty = Some 0
minimum_len (literal bs) = Some (saturated (length bs))
minimum_len (byte_in []) = None
minimum_len (byte_in (r ∷ rs)) = Some 1
minimum_len (char_in rs) = least_encoded rs
minimum_len (look l) = Some 0
minimum_len (repeat zero max greedy a) = Some 0
minimum_len (repeat (suc n) max greedy a) = option_map (λ k. saturated (suc n * k)) (minimum_len a)
minimum_len (capture n name a) = minimum_len a
minimum_len (cat a rest) = both (λ m n. Some (saturated (m + n))) (minimum_len a) (minimum_len rest)
minimum_len (alt a rest) = least (minimum_len a) (minimum_len rest)
minimum_len none = None

-- the greatest number of bytes that the pattern spells; none where there is no bound, or it spells nothing at all
abbrev pub maximum_len : Re → Option ℕ
maximum_len empty = Some 0
maximum_len (literal bs) = capped (length bs)
maximum_len (byte_in []) = None
maximum_len (byte_in (r ∷ rs)) = Some 1
maximum_len (char_in []) = None
maximum_len (char_in (r ∷ rs)) = Some (greatest_encoded r rs)
maximum_len (look l) = Some 0
maximum_len (repeat min None greedy a) = None
maximum_len (repeat min (Some most) greedy a) = option_and_then (λ k. capped (most * k)) (maximum_len a)
maximum_len (capture n name a) = maximum_len a
maximum_len (cat a rest) = both (λ m n. capped (m + n)) (maximum_len a) (maximum_len rest)
maximum_len (alt a rest) = both (λ m n. Some (max m n)) (maximum_len a) (maximum_len rest)
maximum_len none = Some 0

-- how many groups the pattern has
abbrev pub explicit_captures_len : Re → ℕ
explicit_captures_len (repeat min max greedy a) = explicit_captures_len a
explicit_captures_len (capture n name a) = saturated (explicit_captures_len a + 1)
explicit_captures_len (cat a rest) = saturated (explicit_captures_len a + explicit_captures_len rest)
explicit_captures_len (alt a rest) = saturated (explicit_captures_len a + explicit_captures_len rest)
explicit_captures_len _ = 0

-- none unless the numbers are equal
abbrev pub common : Option ℕ → Option ℕ → Option ℕ
common = both (λ m n. if nat_eq m n then Some m else None)

-- the number of a body that may be left out: its groups take part or not
abbrev pub optional_static : Option ℕ → Option ℕ → Option ℕ
optional_static most None = None
optional_static most (Some zero) = Some 0
optional_static None (Some (suc n)) = None
optional_static (Some most) (Some (suc n)) = if nat_eq most 0 then Some 0 else None

-- how many groups take part in each match, where that is one number
abbrev pub static_explicit_captures_len : Re → Option ℕ
static_explicit_captures_len (repeat zero most greedy a) = optional_static most (static_explicit_captures_len a)
static_explicit_captures_len (repeat (suc n) most greedy a) = static_explicit_captures_len a
static_explicit_captures_len (capture n name a) = option_map (λ k. saturated (k + 1)) (static_explicit_captures_len a)
static_explicit_captures_len (cat a rest) =
    both (λ m n. Some (saturated (m + n))) (static_explicit_captures_len a) (static_explicit_captures_len rest)
static_explicit_captures_len (alt a none) = static_explicit_captures_len a
static_explicit_captures_len (alt a rest) = common (static_explicit_captures_len a) (static_explicit_captures_len rest)
static_explicit_captures_len _ = Some 0

abbrev pub look_number : Look → ℕ
look_number Start = 0
look_number End = 1
look_number StartLF = 2
look_number EndLF = 3
look_number StartCRLF = 4
look_number EndCRLF = 5
look_number WordAscii = 6
look_number WordAsciiNegate = 7
look_number WordUnicode = 8
look_number WordUnicodeNegate = 9
look_number WordStartAscii = 10
look_number WordEndAscii = 11
look_number WordStartUnicode = 12
look_number WordEndUnicode = 13
look_number WordStartHalfAscii = 14
look_number WordEndHalfAscii = 15
look_number WordStartHalfUnicode = 16
look_number WordEndHalfUnicode = 17

abbrev pub same_look : Look → Look → Bool
same_look a b = nat_eq (look_number a) (look_number b)

-- the assertion stands in the pattern
abbrev pub has_look : Re → Look → Bool
has_look (look l) k = same_look l k
has_look (repeat min max greedy a) k = has_look a k
has_look (capture n name a) k = has_look a k
has_look (cat a rest) k = has_look a k || has_look rest k
has_look (alt a rest) k = has_look a k || has_look rest k
has_look _ k = false

-- the assertion stands where each match begins
abbrev pub begins_with_look : Re → Look → Bool
begins_with_look (look l) k = same_look l k
begins_with_look (repeat zero max greedy a) k = false
begins_with_look (repeat (suc n) max greedy a) k = begins_with_look a k
begins_with_look (capture n name a) k = begins_with_look a k
begins_with_look (cat a rest) k = begins_with_look a k || (is_zero (maximum_len a) && begins_with_look rest k)
begins_with_look (alt a rest) k = begins_with_look a k && begins_with_look rest k
begins_with_look none k = true
begins_with_look _ k = false

-- the assertion stands where each match ends
abbrev pub ends_with_look : Re → Look → Bool
ends_with_look (look l) k = same_look l k
ends_with_look (repeat zero max greedy a) k = false
ends_with_look (repeat (suc n) max greedy a) k = ends_with_look a k
ends_with_look (capture n name a) k = ends_with_look a k
ends_with_look (cat a rest) k = ends_with_look rest k || (is_zero (maximum_len rest) && ends_with_look a k)
ends_with_look (alt a rest) k = ends_with_look a k && ends_with_look rest k
ends_with_look none k = true
ends_with_look _ k = false

-- no repetition has a body that spells the empty text
abbrev pub is_plain : Re → Bool
is_plain (repeat min max greedy a) = not (is_zero (minimum_len a)) && is_plain a
is_plain (capture n name a) = is_plain a
is_plain (cat a rest) = is_plain a && is_plain rest
is_plain (alt a rest) = is_plain a && is_plain rest
is_plain _ = true
