-- Sets of characters and of bytes, as ranges with both ends included.
use Rattle.std.specs.Prelude.{◌≡◌, ℕ, ◌+◌, ◌-◌, ◌≤◌, Bool, true, false, ◌&&◌, ◌||◌, ◌==◌, nat_le, nat_lt, List, [], ◌∷◌, ◌++◌, Option, Some, None, if◌then◌else◌, max, min}
use Rattle.rc_pattern.specs.Re.{Range}
use Rattle.rc_tokens.specs.Text.{◌>>=◌, ◌>>◌, is_scalar}
use Rattle.rc_tokens.specs.declared.tokens.Set.{Set}
use Rattle.rc_tokens.specs.declared.tokens.Set.TheVariants.{Digits, Spaces, Words}
use Rattle.rc_tokens.specs.declared.tokens.Perl.{Perl}
use Rattle.rc_tokens.specs.declared.tokens.Member.{Member}
use Rattle.rc_tokens.specs.declared.tokens.Member.TheVariants.{Character, Byte, Hyphen}
use Rattle.rc_tokens.specs.declared.tokens.Member.TheVariants as member

-- the codes that the two ranges share
abbrev pub shared : ℕ → ℕ → Range → List Range
shared low high r = if nat_le (max low r.0) (min high r.1) then (max low r.0, min high r.1) ∷ [] else []

abbrev pub lower : List Range → List Range
lower [] = []
lower (r ∷ rs) = (r.0 + 32, r.1 + 32) ∷ lower rs

abbrev pub upper : List Range → List Range
upper [] = []
upper (r ∷ rs) = (r.0 - 32, r.1 - 32) ∷ upper rs

-- each ASCII letter brings its other case
abbrev pub folded : List Range → List Range
folded [] = []
folded (r ∷ rs) = r ∷ (lower (shared 65 90 r) ++ (upper (shared 97 122 r) ++ folded rs))

-- the code after c: of a character the next character, so that U+D7FF and U+E000 touch; of a byte the next number
abbrev pub next : Bool → ℕ → ℕ
next unicode c = if unicode && c == 0xD7FF then 0xE000 else c + 1

abbrev pub before : Bool → ℕ → ℕ
before unicode c = if unicode && c == 0xE000 then 0xD7FF else c - 1

-- a range, and ranges in order that are joined with it where they touch
abbrev pub joins : Bool → Range → List Range → List Range
joins unicode r [] = r ∷ []
joins unicode r (q ∷ qs) =
    if nat_lt (next unicode r.1) q.0 then r ∷ q ∷ qs
    else if nat_lt (next unicode q.1) r.0 then q ∷ joins unicode r qs
    else joins unicode (min r.0 q.0, max r.1 q.1) qs

-- the ranges in order, and joined where they touch
abbrev pub canonical : Bool → List Range → List Range
canonical unicode [] = []
canonical unicode (r ∷ rs) = joins unicode r (canonical unicode rs)

abbrev pub last_code : Bool → ℕ
last_code true = 0x10FFFF
last_code false = 255

-- what ranges in order leave out from `start` on
abbrev pub gaps : Bool → ℕ → List Range → List Range
gaps unicode start [] = if nat_le start (last_code unicode) then (start, last_code unicode) ∷ [] else []
gaps unicode start (r ∷ rs) = (if nat_lt start r.0 then (start, before unicode r.0) ∷ [] else []) ++ gaps unicode (next unicode r.1) rs

abbrev pub folded_if : Bool → List Range → List Range
folded_if true rs = folded rs
folded_if false rs = rs

abbrev pub negated_if : Bool → Bool → List Range → List Range
negated_if unicode true rs = gaps unicode 0 rs
negated_if unicode false rs = rs

-- the class of the ranges: folded first, then complemented
abbrev pub class_of : Bool → Bool → Bool → List Range → List Range
class_of unicode fold negated rs = negated_if unicode negated (canonical unicode (folded_if fold rs))

abbrev pub set_ranges : Set → List Range
set_ranges Digits = (48, 57) ∷ []
set_ranges Spaces = (9, 13) ∷ (32, 32) ∷ []
set_ranges Words = (48, 57) ∷ (65, 90) ∷ (95, 95) ∷ (97, 122) ∷ []

-- a Perl class; each set has its letters in both cases, so that folding changes nothing
abbrev pub perl_ranges : Bool → Perl → List Range
perl_ranges unicode p = class_of unicode false p.negated (set_ranges p.set)

-- the code is that of a character, or of a byte
abbrev pub is_code : Bool → ℕ → Bool
is_code true c = is_scalar c
is_code false c = nat_lt c 256

-- With `u` off a character above 7F stands in a list only as `\xHH`.
abbrev pub code_of : Bool → Member → Option ℕ
code_of unicode (Character c) = ((unicode || nat_lt c 128) && is_code unicode c) >> Some c
code_of unicode (Byte b) = is_code unicode b >> Some b
code_of unicode Hyphen = None
code_of unicode (member.Perl p) = None

-- The ranges of members. `after` says that a range or the `]` that comes first stands before them. A hyphen is
-- itself as the last member, and after a range or that `]` where no hyphen follows.
abbrev pub items : Bool → Bool → List Member → Option (List Range)
items unicode after [] = Some []
items unicode after (Hyphen ∷ []) = Some ((45, 45) ∷ [])
items unicode true (Hyphen ∷ Hyphen ∷ ms) = None
items unicode true (Hyphen ∷ m ∷ ms) = items unicode false (m ∷ ms) >>= λ rs. Some ((45, 45) ∷ rs)
items unicode false (Hyphen ∷ m ∷ ms) = None
items unicode after (member.Perl p ∷ ms) = items unicode false ms >>= λ rs. Some (perl_ranges unicode p ++ rs)
items unicode after (a ∷ Hyphen ∷ b ∷ ms) = code_of unicode a >>= λ low. code_of unicode b >>= λ high.
    nat_le low high >> (items unicode true ms >>= λ rs. Some ((low, high) ∷ rs))
items unicode after (a ∷ ms) = code_of unicode a >>= λ c. items unicode false ms >>= λ rs. Some ((c, c) ∷ rs)

-- with a run of hyphens first, each of which is itself
abbrev pub led_items : Bool → List Member → Option (List Range)
led_items unicode (Hyphen ∷ ms) = led_items unicode ms >>= λ rs. Some ((45, 45) ∷ rs)
led_items unicode ms = items unicode false ms

-- the ranges of a list, as they are written
abbrev pub list_ranges : Bool → Bool → List Member → Option (List Range)
list_ranges unicode true ms = items unicode true ms >>= λ rs. Some ((93, 93) ∷ rs)
list_ranges unicode false ms = led_items unicode ms

-- The class holds a byte of 128 or more.
abbrev pub has_high : List Range → Bool
has_high [] = false
has_high (r ∷ rs) = nat_le 128 r.1 || has_high rs

-- each range has codes as its ends, and ends where it begins or later
abbrev pub AreCodes : Bool → List Range → Type 0
AreCodes unicode [] = Unit {0}
AreCodes unicode (r ∷ rs) = (is_code unicode r.0 ≡ true) × (is_code unicode r.1 ≡ true) × (r.0 ≤ r.1) × AreCodes unicode rs
