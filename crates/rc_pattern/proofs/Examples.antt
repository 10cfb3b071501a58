-- The definitions, run on worked rows.
use Rattle.std.proofs.Common.{◌≡◌, ℕ, zero, suc, ◌+◌, ◌*◌, ◌≤◌, true, false, [], ◌∷◌, Some, None, refl, codes, lit≤, arith}
use Rattle.rc_pattern.specs.Re.{Re, empty, literal, byte_in, char_in, look, repeat, capture, cat, alt, none}
use Rattle.rc_pattern.specs.Meaning.{cat_all, alt_all, literal_of, concat_of, alternation_of}
use Rattle.rc_pattern.specs.Dots.{dot_of}
use Rattle.rc_pattern.specs.Weight.{weight, list_weight}
use Rattle.rc_pattern.specs.WellFormed.{group_numbers, group_names, AreDistinct, AreAscending, depth, IsWellFormed}
use Rattle.rc_pattern.specs.Properties.{minimum_len, maximum_len, explicit_captures_len, static_explicit_captures_len, has_look, begins_with_look, ends_with_look, is_plain, greatest_usize}
use Rattle.rc_pattern.specs.declared.hir.Look.TheVariants.{Start, End, WordAscii}
use Rattle.rc_pattern.specs.declared.hir.dots.Dot.TheVariants.{AnyChar, AnyCharExcept, AnyByteExcept}

abbrev a : Re
a = literal (codes "a")

abbrev bc : Re
bc = literal (codes "bc")

-- `x*`, `x?`, `x{n}`
abbrev star : Re → Re
star x = repeat 0 None true x

abbrev optional : Re → Re
optional x = repeat 0 (Some 1) true x

abbrev exactly : ℕ → Re → Re
exactly n x = repeat n (Some n) true x

-- ---- how constructors join

literal_of_none : literal_of [] ≡ empty
literal_of_none = refl

-- `a` and `bc` in a concatenation, and `^`
concat_nested : concat_of (cat_all (look Start ∷ a ∷ []) ∷ bc ∷ []) ≡ cat_all (look Start ∷ literal (codes "abc") ∷ [])
concat_nested = refl

concat_joined : concat_of (a ∷ empty ∷ bc ∷ a ∷ []) ≡ literal (codes "abca")
concat_joined = refl

concat_apart : concat_of (a ∷ look End ∷ bc ∷ []) ≡ cat a (cat (look End) (cat bc empty))
concat_apart = refl

concat_of_one : concat_of (empty ∷ star a ∷ empty ∷ []) ≡ star a
concat_of_one = refl

concat_of_none : concat_of (empty ∷ empty ∷ []) ≡ empty
concat_of_none = refl

-- members are spliced one level deep: the members of a member stay
concat_once : concat_of (cat_all (cat_all (a ∷ look End ∷ []) ∷ bc ∷ []) ∷ []) ≡ cat_all (cat_all (a ∷ look End ∷ []) ∷ bc ∷ [])
concat_once = refl

alternation_nested : alternation_of (alt_all (a ∷ bc ∷ []) ∷ empty ∷ []) ≡ alt a (alt bc (alt empty none))
alternation_nested = refl

alternation_of_one : alternation_of (a ∷ []) ≡ a
alternation_of_one = refl

alternation_of_none : alternation_of [] ≡ byte_in []
alternation_of_none = refl

-- the members of an alternation without members are none
alternation_dropped : alternation_of (none ∷ a ∷ []) ≡ a
alternation_dropped = refl

-- ---- dots

any_char : dot_of AnyChar ≡ char_in ((0, 0x10FFFF) ∷ [])
any_char = refl

any_char_but_first : dot_of (AnyCharExcept 0) ≡ char_in ((1, 0x10FFFF) ∷ [])
any_char_but_first = refl

any_char_but_last : dot_of (AnyCharExcept 0x10FFFF) ≡ char_in ((0, 0x10FFFE) ∷ [])
any_char_but_last = refl

any_char_but_E000 : dot_of (AnyCharExcept 0xE000) ≡ char_in ((0, 0xD7FF) ∷ (0xE001, 0x10FFFF) ∷ [])
any_char_but_E000 = refl

any_char_but_D7FF : dot_of (AnyCharExcept 0xD7FF) ≡ char_in ((0, 0xD7FE) ∷ (0xE000, 0x10FFFF) ∷ [])
any_char_but_D7FF = refl

any_byte_but_lf : dot_of (AnyByteExcept 10) ≡ byte_in ((0, 9) ∷ (11, 255) ∷ [])
any_byte_but_lf = refl

any_byte_but_last : dot_of (AnyByteExcept 255) ≡ byte_in ((0, 254) ∷ [])
any_byte_but_last = refl

-- ---- weights

list_of_a : list_weight (a ∷ []) ≡ 6
list_of_a = refl

thousand : weight (exactly 1000 a) ≡ 3002
thousand = refl

million : weight (exactly 1000 (exactly 1000 a)) ≡ 3004002
million = refl

list_of_million : list_weight (exactly 1000 (exactly 1000 a) ∷ []) ≡ 3004007
list_of_million = refl

-- `\d` and `.`
digit : weight (char_in ((48, 57) ∷ [])) ≡ 85
digit = refl

list_of_digit : list_weight (char_in ((48, 57) ∷ []) ∷ []) ≡ 90
list_of_digit = refl

dot : weight (dot_of (AnyCharExcept 10)) ≡ 169
dot = refl

-- a concatenation is 1 and its members, an alternation 2, its members and 1 for each
concat_weight : weight (cat_all (a ∷ look End ∷ bc ∷ [])) ≡ 1 + (1 + 1 + 2)
concat_weight = refl

alternation_weight : weight (alt_all (a ∷ bc ∷ [])) ≡ 2 + 2 + (1 + 2)
alternation_weight = refl

star_weight : weight (star bc) ≡ 1 * (2 + 2) + 2
star_weight = refl

left_out_weight : weight (exactly 0 bc) ≡ 1 * (2 + 2) + 2
left_out_weight = refl

-- ---- properties

-- `a|bc`
branches_minimum : minimum_len (alt_all (a ∷ bc ∷ [])) ≡ Some 1
branches_minimum = refl

branches_maximum : maximum_len (alt_all (a ∷ bc ∷ [])) ≡ Some 2
branches_maximum = refl

-- a member that spells nothing takes no part in the minimum, but leaves no maximum
failing_minimum : minimum_len (alt_all (bc ∷ byte_in [] ∷ [])) ≡ Some 2
failing_minimum = refl

failing_maximum : maximum_len (alt_all (bc ∷ byte_in [] ∷ [])) ≡ None
failing_maximum = refl

-- the scalars from U+007F to U+0800 take 1 to 3 bytes
encoded_minimum : minimum_len (char_in ((0x7F, 0x800) ∷ [])) ≡ Some 1
encoded_minimum = refl

encoded_maximum : maximum_len (char_in ((0x7F, 0x800) ∷ [])) ≡ Some 3
encoded_maximum = refl

star_maximum : maximum_len (star a) ≡ None
star_maximum = refl

turns : minimum_len (repeat 2 (Some 5) true bc) ≡ Some 4
turns = refl

most_turns : maximum_len (repeat 2 (Some 5) true bc) ≡ Some 10
most_turns = refl

-- 4294967295 turns of 4294967295 turns of 2 bytes: a minimum stays at the greatest usize, a maximum above it is none
many_minimum : minimum_len (exactly 4294967295 (exactly 4294967295 bc)) ≡ Some greatest_usize
many_minimum = refl

many_maximum : maximum_len (exactly 4294967295 (exactly 4294967295 bc)) ≡ None
many_maximum = refl

abbrev group : Re → Re
group x = capture 1 None x

-- `(a)|bc`, `(a)|(b)`, `(a)?`, `(a){0}`
branch_groups : static_explicit_captures_len (alt_all (group a ∷ bc ∷ [])) ≡ None
branch_groups = refl

common_groups : static_explicit_captures_len (alt_all (group a ∷ capture 2 None bc ∷ [])) ≡ Some 1
common_groups = refl

all_groups : explicit_captures_len (alt_all (group a ∷ capture 2 None bc ∷ [])) ≡ 2
all_groups = refl

optional_groups : static_explicit_captures_len (optional (group a)) ≡ None
optional_groups = refl

left_out_groups : static_explicit_captures_len (exactly 0 (group a)) ≡ Some 0
left_out_groups = refl

-- `^$a`: both assertions stand where a match begins, and neither where it ends
prefix_start : begins_with_look (cat_all (look Start ∷ look End ∷ a ∷ [])) End ≡ true
prefix_start = refl

prefix_past : begins_with_look (cat_all (a ∷ look End ∷ [])) End ≡ false
prefix_past = refl

-- `a?^` and `(?:^)?a`
prefix_optional : begins_with_look (cat_all (optional a ∷ look Start ∷ [])) Start ≡ false
prefix_optional = refl

prefix_left_out : begins_with_look (cat_all (optional (look Start) ∷ a ∷ [])) Start ≡ false
prefix_left_out = refl

suffix_end : ends_with_look (cat_all (a ∷ look Start ∷ look End ∷ [])) Start ≡ true
suffix_end = refl

-- `^a|^bc` and `^a|bc`
prefix_common : begins_with_look (alt_all (cat_all (look Start ∷ a ∷ []) ∷ cat_all (look Start ∷ bc ∷ []) ∷ [])) Start ≡ true
prefix_common = refl

prefix_of_one : begins_with_look (alt_all (cat_all (look Start ∷ a ∷ []) ∷ bc ∷ [])) Start ≡ false
prefix_of_one = refl

look_within : has_look (star (cat_all (a ∷ look WordAscii ∷ []))) WordAscii ≡ true
look_within = refl

plain : is_plain (star (cat_all (a ∷ star bc ∷ []))) ≡ true
plain = refl

not_plain : is_plain (cat_all (a ∷ star (optional bc) ∷ [])) ≡ false
not_plain = refl

-- ---- well-formed

numbers : group_numbers (cat_all (capture 1 None (capture 2 None a) ∷ star (capture 3 None bc) ∷ [])) ≡ 1 ∷ 2 ∷ 3 ∷ []
numbers = refl

names : group_names (alt_all (capture 1 (Some (codes "n")) a ∷ capture 2 None bc ∷ [])) ≡ Some (codes "n") ∷ None ∷ []
names = refl

abbrev within : ℕ → Re → Re
within zero h = h
within (suc n) h = star (within n h)

deepest : depth (within 1023 a) ≡ 1024
deepest = refl

concat_depth : depth (cat_all (a ∷ star bc ∷ a ∷ [])) ≡ 3
concat_depth = refl

well_formed : IsWellFormed (cat_all (capture 1 (Some (codes "n")) a ∷ capture 2 None (repeat 2 (Some 2) true bc) ∷ []))
well_formed = record { numbered = refl; named = (((λ e. cc), tt), (tt, tt)); bounded = (tt, ((lit≤ tt, tt), tt)); shallow = lit≤ tt }

-- a group 2 alone
second_alone : ¬ IsWellFormed (capture 2 None a)
second_alone w = let e = w.numbered in cc

-- one name twice
doubled : ¬ AreDistinct (Some (codes "n") ∷ None ∷ Some (codes "n") ∷ [])
doubled d = d.0.1.0 refl

-- neighbouring ranges ascend, and overlapping ones don't
neighbours : AreAscending 0 ((97, 99) ∷ (100, 102) ∷ [])
neighbours = (lit≤ tt, lit≤ tt, (lit≤ tt, lit≤ tt, tt))

overlapping : ¬ AreAscending 0 ((97, 100) ∷ (100, 102) ∷ [])
overlapping h = let e : 101 ≤ 100 = h.2.0 in absurd (omega arith)

backwards : ¬ AreAscending 0 ((100, 97) ∷ [])
backwards h = let e : 100 ≤ 97 = h.1 in absurd (omega arith)
