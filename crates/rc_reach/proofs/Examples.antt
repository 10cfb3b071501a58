-- Worked rows: matches, and how far a search read for them.
use Rattle.std.proofs.Common.{◌≡◌, ℕ, true, false, List, [], ◌∷◌, length, map, Option, Some, None, ap, refl, arith, codes}
use Rattle.std.specs.Option.{option_map}
use Rattle.rc_text.specs.Found.{Found}
use Rattle.rc_pattern.specs.Re.{Re, empty, literal, byte_in, look, repeat, cat, alt, none}
use Rattle.rc_pattern.specs.declared.hir.Look.TheVariants.{End, WordAscii}
use Rattle.rc_program.specs.Program.{program}
use Rattle.rc_program.specs.Answer.{Search, anywhere, answer, chosen}
use Rattle.rc_program.specs.Matches.{matches_left}
use Rattle.rc_text.specs.declared.types.MatchKind.TheVariants.{LeftmostFirst as leftmost_first}
use Rattle.rc_reach.specs.Settled.{IsSettled}
use Rattle.rc_reach.proofs.Tried.{reach_of, reach_from}

-- the search for these patterns over a content
abbrev over : List Re → List ℕ → Search
over hs content = record {
  places = program hs;
  text = record { content = content; slice_start = 0; slice_end = length content; terminator = 10 };
  lo = 0;
  hi = length content;
  anchoring = anywhere;
  passes_over = false;
}

abbrev passing_over : List Re → List ℕ → Search
passing_over hs content = record (over hs content) { passes_over = true }

abbrev span_of : Found → ℕ × ℕ
span_of m = (m.start, m.end)

abbrev a : Re
a = literal (codes "a")

abbrev ab : Re
ab = literal (codes "ab")

abbrev x : Re
x = literal (codes "x")

abbrev either_of : Re → Re → Re
either_of p q = alt p (alt q none)

-- 1. `a|ab` on `ab`: 0..1, and the second byte isn't read
row_1 : reach_of (over (either_of a ab ∷ []) (codes "ab")) ≡ 1
row_1 = refl

-- 2. `ab|a` on `ac`: 0..1, once the second byte was read
row_2 : reach_of (over (either_of ab a ∷ []) (codes "ac")) ≡ 2
row_2 = refl

-- 3. `ab|a` on `a`: 0..1, and the end was seen
row_3 : reach_of (over (either_of ab a ∷ []) (codes "a")) ≡ 2
row_3 = refl

-- 4. `a+` on `aab`: 0..2
row_4 : reach_of (over (repeat 1 None true a ∷ []) (codes "aab")) ≡ 3
row_4 = refl

-- 5. `a+` on `baa`: 1..3, and the end was seen
row_5 : reach_of (over (repeat 1 None true a ∷ []) (codes "baa")) ≡ 4
row_5 = refl

-- 6. `a$` on `ab`: nothing, and the end was seen; `a\b` on `a b`: 0..1, by the byte after it
row_6a : reach_of (over (cat a (cat (look End) empty) ∷ []) (codes "ab")) ≡ 3
row_6a = refl

row_6b : reach_of (over (cat a (cat (look WordAscii) empty) ∷ []) (codes "a b")) ≡ 2
row_6b = refl

-- 7. `abc` on `xxab`: nothing
row_7 : reach_of (over (literal (codes "abc") ∷ []) (codes "xxab")) ≡ 5
row_7 = refl

-- 8. `x*` on `aax`: 0..0, 1..1, 2..3, by searches from 0, 1, 2, 3 and 4
row_8 : map span_of (matches_left (over (repeat 0 None true x ∷ []) (codes "aax")) 0 None) ≡ (0, 0) ∷ (1, 1) ∷ (2, 3) ∷ []
unfolding matches_left answer chosen
row_8 = refl

row_8_reaches : map (reach_from (over (repeat 0 None true x ∷ []) (codes "aax"))) (0 ∷ 1 ∷ 2 ∷ 3 ∷ 4 ∷ []) ≡ 1 ∷ 2 ∷ 4 ∷ 4 ∷ 4 ∷ []
row_8_reaches = refl

-- and once an `x` was put in at 1: 0..0, 1..2, 3..4
row_8_edited : map span_of (matches_left (over (repeat 0 None true x ∷ []) (codes "axax")) 0 None) ≡ (0, 0) ∷ (1, 2) ∷ (3, 4) ∷ []
unfolding matches_left answer chosen
row_8_edited = refl

-- 9. `a|` on `ba`: 0..0, 1..2, by searches from 0, 1, 2 and 3; without the `b`: 0..1
row_9 : map span_of (matches_left (over (either_of a empty ∷ []) (codes "ba")) 0 None) ≡ (0, 0) ∷ (1, 2) ∷ []
unfolding matches_left answer chosen
row_9 = refl

row_9_reaches : map (reach_from (over (either_of a empty ∷ []) (codes "ba"))) (0 ∷ 1 ∷ 2 ∷ 3 ∷ []) ≡ 1 ∷ 2 ∷ 3 ∷ 3 ∷ []
row_9_reaches = refl

row_9_edited : map span_of (matches_left (over (either_of a empty ∷ []) (codes "a")) 0 None) ≡ (0, 1) ∷ []
unfolding matches_left answer chosen
row_9_edited = refl

-- 10. nothing on a letter of two bytes, where what splits it is passed over: 0..0, 2..2
row_10 : map span_of (matches_left (passing_over (empty ∷ []) (0xC3 ∷ 0xA9 ∷ [])) 0 None) ≡ (0, 0) ∷ (2, 2) ∷ []
unfolding matches_left answer chosen
row_10 = refl

row_10_reaches : map (reach_from (passing_over (empty ∷ []) (0xC3 ∷ 0xA9 ∷ []))) (0 ∷ 1 ∷ 2 ∷ []) ≡ 1 ∷ 3 ∷ 3 ∷ []
row_10_reaches = refl

-- 11. `(?s).*x|a` on `aab`: 0..1, 1..2, each once the end was seen
row_11 : map (reach_from (over (either_of (cat (repeat 0 None true (byte_in ((0, 255) ∷ []))) (cat x empty)) a ∷ []) (codes "aab"))) (0 ∷ 1 ∷ 2 ∷ [])
    ≡ 4 ∷ 4 ∷ 4 ∷ []
row_11 = refl

-- 12. `ab` on `ab--ab--ab`: 0..2, 4..6, 8..10; with `xyz` in place of the second: 0..2, 9..11
row_12 : map span_of (matches_left (over (ab ∷ []) (codes "ab--ab--ab")) 0 None) ≡ (0, 2) ∷ (4, 6) ∷ (8, 10) ∷ []
unfolding matches_left answer chosen
row_12 = refl

row_12_reaches : map (reach_from (over (ab ∷ []) (codes "ab--ab--ab"))) (0 ∷ 2 ∷ 6 ∷ 10 ∷ []) ≡ 2 ∷ 6 ∷ 10 ∷ 11 ∷ []
row_12_reaches = refl

row_12_edited : map span_of (matches_left (over (ab ∷ []) (codes "ab--xyz--ab")) 0 None) ≡ (0, 2) ∷ (9, 11) ∷ []
unfolding matches_left answer chosen
row_12_edited = refl

-- the matches of rows 1 to 7 and 11
spans : map (λ (s : Search). option_map span_of (answer s))
    (over (either_of a ab ∷ []) (codes "ab") ∷ over (either_of ab a ∷ []) (codes "ac") ∷ over (either_of ab a ∷ []) (codes "a")
    ∷ over (repeat 1 None true a ∷ []) (codes "aab") ∷ over (repeat 1 None true a ∷ []) (codes "baa")
    ∷ over (cat a (cat (look End) empty) ∷ []) (codes "ab") ∷ over (cat a (cat (look WordAscii) empty) ∷ []) (codes "a b")
    ∷ over (literal (codes "abc") ∷ []) (codes "xxab") ∷ [])
    ≡ Some (0, 1) ∷ Some (0, 1) ∷ Some (0, 1) ∷ Some (0, 2) ∷ Some (1, 3) ∷ None ∷ Some (0, 1) ∷ None ∷ []
unfolding answer chosen
spans = refl

row_11_list : map span_of (matches_left (over (either_of (cat (repeat 0 None true (byte_in ((0, 255) ∷ []))) (cat x empty)) a ∷ []) (codes "aab")) 0 None)
    ≡ (0, 1) ∷ (1, 2) ∷ []
unfolding matches_left answer chosen
row_11_list = refl

row_11_edited : map span_of (matches_left (over (either_of (cat (repeat 0 None true (byte_in ((0, 255) ∷ []))) (cat x empty)) a ∷ []) (codes "aabx")) 0 None)
    ≡ (0, 4) ∷ []
unfolding matches_left answer chosen
row_11_edited = refl

end_or_none : Option Found → ℕ
end_or_none None = 0
end_or_none (Some m) = m.end

-- one byte doesn't settle row 2: on `ab` the match is 0..2
row_2_not_before : IsSettled leftmost_first 1 (over (either_of ab a ∷ []) (codes "ac")) → ⊥
unfolding answer chosen end_or_none
row_2_not_before h =
    let e = h (over (either_of ab a ∷ []) (codes "ab")) (record { lo = omega arith; hi = omega arith; slice_end = omega arith })
    (record {
      places = refl;
      terminator = refl;
      slice_start = refl;
      lo = refl;
      anchoring = refl;
      passes_over = refl;
      read = refl;
      seen = refl;
      content = refl;
    }) in
    let ends : 2 ≡ 1 = ap end_or_none e in omega (arith, ends)
