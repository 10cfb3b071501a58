-- The definitions, run on worked rows.
use Rattle.std.proofs.Common.{◌≡◌, ℕ, true, false, List, [], ◌∷◌, length, map, Some, None, refl, codes}
use Rattle.std.specs.Option.{option_map}
use Rattle.rc_text.specs.Found.{Found}
use Rattle.rc_text.specs.declared.types.Span.{Span}
use Rattle.rc_pattern.specs.Re.{Re, empty, literal, byte_in, char_in, look, repeat, capture}
use Rattle.rc_pattern.specs.Meaning.{cat_all, alt_all}
use Rattle.rc_pattern.specs.declared.hir.Look.TheVariants.{Start}
use Rattle.rc_program.specs.Program.{program}
use Rattle.rc_program.specs.Answer.{Search, anywhere, at_start, by_pattern, answer, groups, chosen}
use Rattle.rc_program.specs.Matches.{matches_left, pieces_of, pieces_at_most}

-- the search for these patterns over a content
abbrev over : List Re → List ℕ → Search
over hs content = record {
  places = program hs;
  text = record { content = content; slice_start = 0; slice_end = length content; terminator = 10 };
  lo = 0;
  hi = length content;
  anchoring = anywhere;
  passes_over = false;
}

abbrev span_of : Found → ℕ × ℕ
span_of m = (m.start, m.end)

-- pattern, start and end
abbrev triple_of : Found → ℕ × ℕ × ℕ
triple_of m = (m.pattern, m.start, m.end)

abbrev ends_of : Span → ℕ × ℕ
ends_of s = (s.start, s.end)

abbrev a : Re
a = literal (codes "a")

abbrev b : Re
b = literal (codes "b")

abbrev x : Re
x = literal (codes "x")

-- `a|ab` on `ab`: 0..1
first_branch : option_map span_of (answer (over (alt_all (a ∷ literal (codes "ab") ∷ []) ∷ []) (codes "ab"))) ≡ Some (0, 1)
unfolding answer chosen
first_branch = refl

-- `ab|a` on `ab`: 0..2
longer_branch : option_map span_of (answer (over (alt_all (literal (codes "ab") ∷ a ∷ []) ∷ []) (codes "ab"))) ≡ Some (0, 2)
unfolding answer chosen
longer_branch = refl

-- `(|a)+` on `aaa`: 0..0 with group 1 0..0
empty_turn : groups (over (repeat 1 None true (capture 1 None (alt_all (empty ∷ a ∷ []))) ∷ []) (codes "aaa")) 4
    ≡ Some (Some 0 ∷ Some 0 ∷ Some 0 ∷ Some 0 ∷ [])
unfolding groups chosen
empty_turn = refl

-- `(|a)+` on `aaa`: the list is 0..0, 1..1, 2..2, 3..3
empty_turns : map span_of (matches_left (over (repeat 1 None true (capture 1 None (alt_all (empty ∷ a ∷ []))) ∷ []) (codes "aaa")) 0 None)
    ≡ (0, 0) ∷ (1, 1) ∷ (2, 2) ∷ (3, 3) ∷ []
unfolding matches_left answer chosen
empty_turns = refl

-- `(a|b){2}` on `ab`: group 1 is 1..2
last_turn : groups (over (repeat 2 (Some 2) true (capture 1 None (alt_all (a ∷ b ∷ []))) ∷ []) (codes "ab")) 4
    ≡ Some (Some 0 ∷ Some 2 ∷ Some 1 ∷ Some 2 ∷ [])
unfolding groups chosen
last_turn = refl

-- `(?:(a)|b)*` on `ab`: group 1 is 0..1, though the last turn doesn't pass it
kept_turn : groups (over (repeat 0 None true (alt_all (capture 1 None a ∷ b ∷ [])) ∷ []) (codes "ab")) 4
    ≡ Some (Some 0 ∷ Some 2 ∷ Some 0 ∷ Some 1 ∷ [])
unfolding groups chosen
kept_turn = refl

-- `(a)|(b)` on `b`: group 1 takes no part, group 2 is 0..1
no_group : groups (over (alt_all (capture 1 None a ∷ capture 2 None b ∷ []) ∷ []) (codes "b")) 6
    ≡ Some (Some 0 ∷ Some 1 ∷ None ∷ None ∷ Some 0 ∷ Some 1 ∷ [])
unfolding groups chosen
no_group = refl

-- `x*` greedy on `axx`: 0..0, 1..3
star_list : map span_of (matches_left (over (repeat 0 None true x ∷ []) (codes "axx")) 0 None) ≡ (0, 0) ∷ (1, 3) ∷ []
unfolding matches_left answer chosen
star_list = refl

-- `x*?` on `x`: 0..0, 1..1
lazy_star_list : map span_of (matches_left (over (repeat 0 None false x ∷ []) (codes "x")) 0 None) ≡ (0, 0) ∷ (1, 1) ∷ []
unfolding matches_left answer chosen
lazy_star_list = refl

-- `a{2,3}` on `aaaa`, greedy and lazy
counted : option_map span_of (answer (over (repeat 2 (Some 3) true a ∷ []) (codes "aaaa"))) ≡ Some (0, 3)
unfolding answer chosen
counted = refl

lazy_counted : option_map span_of (answer (over (repeat 2 (Some 3) false a ∷ []) (codes "aaaa"))) ≡ Some (0, 2)
unfolding answer chosen
lazy_counted = refl

-- the patterns `a` and `ab` on `ab`: 0..1 of the first; by the second alone 0..2
first_pattern : option_map triple_of (answer (over (a ∷ literal (codes "ab") ∷ []) (codes "ab"))) ≡ Some (0, 0, 1)
unfolding answer chosen
first_pattern = refl

second_pattern : option_map triple_of (answer (record (over (a ∷ literal (codes "ab") ∷ []) (codes "ab")) { anchoring = by_pattern 1 }))
    ≡ Some (1, 0, 2)
unfolding answer chosen
second_pattern = refl

-- by a pattern that isn't there: nothing
no_pattern : option_map triple_of (answer (record (over (a ∷ []) (codes "a")) { anchoring = by_pattern 1 })) ≡ None
unfolding answer chosen
no_pattern = refl

-- `b` on `ab`: 1..2, and anchored nothing
unanchored : option_map span_of (answer (over (b ∷ []) (codes "ab"))) ≡ Some (1, 2)
unfolding answer chosen
unanchored = refl

anchored : option_map span_of (answer (record (over (b ∷ []) (codes "ab")) { anchoring = at_start })) ≡ None
unfolding answer chosen
anchored = refl

-- the empty pattern, from 1 to 0: nothing
past_hi : option_map span_of (answer (record (over (empty ∷ []) (codes "a")) { lo = 1; hi = 0 })) ≡ None
unfolding answer chosen
past_hi = refl

-- `é` in UTF-8
abbrev e_acute : List ℕ
e_acute = 0xC3 ∷ 0xA9 ∷ []

-- the empty pattern on `é`: 0..0, 2..2 with passing over, 0..0, 1..1, 2..2 without
passing_over : map span_of (matches_left (record (over (empty ∷ []) e_acute) { passes_over = true }) 0 None) ≡ (0, 0) ∷ (2, 2) ∷ []
unfolding matches_left answer chosen
passing_over = refl

not_passing_over : map span_of (matches_left (over (empty ∷ []) e_acute) 0 None) ≡ (0, 0) ∷ (1, 1) ∷ (2, 2) ∷ []
unfolding matches_left answer chosen
not_passing_over = refl

-- anchored at 1, the answer there is passed over, and no other start is tried
anchored_passing_over : option_map span_of (answer (record (over (empty ∷ []) e_acute) { lo = 1; anchoring = at_start; passes_over = true })) ≡ None
unfolding answer chosen
anchored_passing_over = refl

abbrev any_char : Re
any_char = char_in ((0, 0x10_FFFF) ∷ [])

-- a scalar class on `é`: 0..2; on its second byte nothing; nothing where the search ends inside it
whole_scalar : option_map span_of (answer (over (any_char ∷ []) e_acute)) ≡ Some (0, 2)
unfolding answer chosen
whole_scalar = refl

inside_scalar : option_map span_of (answer (record (over (any_char ∷ []) e_acute) { lo = 1 })) ≡ None
unfolding answer chosen
inside_scalar = refl

cut_scalar : option_map span_of (answer (record (over (any_char ∷ []) e_acute) { hi = 1 })) ≡ None
unfolding answer chosen
cut_scalar = refl

-- a byte class on `é`: 0..1
one_byte : option_map span_of (answer (over (byte_in ((0, 255) ∷ []) ∷ []) e_acute)) ≡ Some (0, 1)
unfolding answer chosen
one_byte = refl

-- `^a` on `aa` from 1 on: nothing; in the slice that begins there, 1..2
no_start : option_map span_of (answer (record (over (cat_all (look Start ∷ a ∷ []) ∷ []) (codes "aa")) { lo = 1 })) ≡ None
unfolding answer chosen
no_start = refl

slice_start : option_map span_of
    (answer (record (over (cat_all (look Start ∷ a ∷ []) ∷ []) (codes "aa")) {
      lo = 1;
      text = record { content = codes "aa"; slice_start = 1; slice_end = 2; terminator = 10 };
    })) ≡ Some (1, 2)
unfolding answer chosen
slice_start = refl

-- `a` on `bab`: the pieces 0..1 and 2..3; at most one of them is 0..3
pieces : map ends_of (pieces_of 3 (matches_left (over (a ∷ []) (codes "bab")) 0 None)) ≡ (0, 1) ∷ (2, 3) ∷ []
unfolding matches_left answer chosen
pieces = refl

one_piece : map ends_of (pieces_at_most 1 3 (matches_left (over (a ∷ []) (codes "bab")) 0 None)) ≡ (0, 3) ∷ []
unfolding matches_left answer chosen
one_piece = refl

two_pieces : map ends_of (pieces_at_most 2 3 (matches_left (over (a ∷ []) (codes "bab")) 0 None)) ≡ (0, 1) ∷ (2, 3) ∷ []
unfolding matches_left answer chosen
two_pieces = refl

-- with no match the one piece is all
no_match : map ends_of (pieces_of 3 (matches_left (over (x ∷ []) (codes "bab")) 0 None)) ≡ (0, 3) ∷ []
unfolding matches_left answer chosen
no_match = refl
