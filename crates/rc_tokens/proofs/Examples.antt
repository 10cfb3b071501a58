-- The definitions, run on worked rows.
use Rattle.std.proofs.Common.{◌≡◌, true, false, [], ◌∷◌, Some, None, refl, codes}
use Rattle.rc_tokens.specs.Marks.{plain, escaped, short, brackets, stands, piece_says, written, exactly, bounds_of, bounds, flags_of, opening_says, naming, escape_says, braced, fixed}
use Rattle.rc_tokens.specs.Said.{Members}
use Rattle.rc_tokens.specs.Classes.{canonical, class_of, list_ranges}
use Rattle.rc_tokens.specs.Merged.{merged}
use Rattle.rc_tokens.specs.declared.tokens.Member.TheVariants.{Character, Byte, Hyphen}
use Rattle.rc_tokens.specs.declared.tokens.Escape.TheVariants as says
use Rattle.rc_tokens.specs.declared.tokens.Assertion.TheVariants.{WordStart}

-- ---- classes

joined : canonical false ((98, 100) ∷ (97, 97) ∷ (120, 122) ∷ (101, 101) ∷ []) ≡ (97, 101) ∷ (120, 122) ∷ []
joined = refl

touching : canonical true ((0xE000, 0xE001) ∷ (97, 0xD7FF) ∷ []) ≡ (97, 0xE001) ∷ []
touching = refl

in_one_pass : merged true ((97, 0xD7FF) ∷ (98, 99) ∷ (0xE000, 0xE001) ∷ (0xE003, 0xE003) ∷ []) ≡ (97, 0xE001) ∷ (0xE003, 0xE003) ∷ []
in_one_pass = refl

left_out : class_of true false true ((0, 0xD7FF) ∷ []) ≡ (0xE000, 0x10FFFF) ∷ []
left_out = refl

fold : class_of true true false ((107, 107) ∷ []) ≡ (75, 75) ∷ (107, 107) ∷ []
fold = refl

-- ---- lists

-- `[]-a]`
odd_written : written (stands (brackets false true (plain 45 ∷ plain 97 ∷ []))) ≡ codes "[]-a]"
odd_written = refl

odd_says : piece_says (brackets false true (plain 45 ∷ plain 97 ∷ [])) ≡ Some (Members false true (Hyphen ∷ Character 97 ∷ []))
odd_says = refl

odd_ranges : list_ranges true true (Hyphen ∷ Character 97 ∷ []) ≡ Some ((93, 93) ∷ (45, 45) ∷ (97, 97) ∷ [])
odd_ranges = refl

-- `[a-b-c]`
range_and_hyphen : list_ranges true false (Character 97 ∷ Hyphen ∷ Character 98 ∷ Hyphen ∷ Character 99 ∷ []) ≡ Some ((97, 98) ∷ (45, 45) ∷ (99, 99) ∷ [])
range_and_hyphen = refl

-- `[b-a]`, `[a--b]`
backwards : list_ranges true false (Character 98 ∷ Hyphen ∷ Character 97 ∷ []) ≡ None
backwards = refl

two_hyphens : list_ranges true false (Character 97 ∷ Hyphen ∷ Hyphen ∷ Character 98 ∷ []) ≡ None
two_hyphens = refl

-- past ASCII without `u`, as a character and as a byte
no_character : list_ranges false false (Character 233 ∷ []) ≡ None
no_character = refl

a_byte : list_ranges false false (Byte 233 ∷ []) ≡ Some ((233, 233) ∷ [])
a_byte = refl

-- `[&&]` and `[\&&]`
no_twice : piece_says (brackets false false (plain 38 ∷ plain 38 ∷ [])) ≡ None
no_twice = refl

no_twice_escaped : piece_says (brackets false false (escaped (short 38) ∷ plain 38 ∷ [])) ≡ None
no_twice_escaped = refl

-- ---- other marks

leading_zeros : bounds_of true (exactly (codes "007")) ≡ Some (bounds true 7 (Some 7))
leading_zeros = refl

twice : flags_of (codes "ii") ≡ None
twice = refl

hyphen_last : flags_of (codes "i-") ≡ None
hyphen_last = refl

digit_first : opening_says (naming true (codes "9")) ≡ None
digit_first = refl

word_start : escape_says (braced 98 (codes "start")) ≡ Some (says.Assertion WordStart)
word_start = refl

surrogate : escape_says (fixed 117 (codes "D800")) ≡ None
surrogate = refl
