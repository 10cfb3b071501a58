-- The longest match, run on worked rows.
use Rattle.std.proofs.Common.{◌≡◌, true, false, [], ◌∷◌, map, Some, None, refl, codes}
use Rattle.std.specs.Option.{option_map}
use Rattle.rc_pattern.specs.Re.{Re, empty, literal, repeat, capture}
use Rattle.rc_pattern.specs.Meaning.{cat_all, alt_all}
use Rattle.rc_text.specs.declared.types.MatchKind.TheVariants.{LeftmostLongest as leftmost_longest}
use Rattle.rc_program.specs.Longest.{longest, longest_groups, longest_chosen}
use Rattle.rc_program.specs.Kinds.{matches_by_kind}
use Rattle.rc_program.proofs.KindExamples.{over, triple_of}

abbrev a : Re
a = literal (codes "a")

abbrev ab : Re
ab = literal (codes "ab")

abbrev bcd : Re
bcd = literal (codes "bcd")

-- `a|ab` on `ab`
longer : option_map triple_of (longest (over (alt_all (a ∷ ab ∷ []) ∷ []) (codes "ab"))) ≡ Some (0, 0, 2)
unfolding longest longest_chosen
longer = refl

-- `a|bcd` on `abcd`: the least start comes before the length
leftmost : option_map triple_of (longest (over (alt_all (a ∷ bcd ∷ []) ∷ []) (codes "abcd"))) ≡ Some (0, 0, 1)
unfolding longest longest_chosen
leftmost = refl

-- `a`, `ab`, `ab` on `ab`: of two patterns with the same longest end the first
two_patterns : option_map triple_of (longest (over (a ∷ ab ∷ ab ∷ []) (codes "ab"))) ≡ Some (1, 0, 2)
unfolding longest longest_chosen
two_patterns = refl

-- `(ab|a)(c|bcd)?` on `abcd`
parted : longest_groups (over (cat_all (capture 1 None (alt_all (ab ∷ a ∷ [])) ∷ repeat 0 (Some 1) true (capture 2 None (alt_all (literal (codes "c") ∷ bcd ∷ []))) ∷ []) ∷ []) (codes "abcd")) 6
    ≡ Some (Some 0 ∷ Some 4 ∷ Some 0 ∷ Some 1 ∷ Some 1 ∷ Some 4 ∷ [])
unfolding longest_groups longest_chosen
parted = refl

-- `(|a)+` on `aaa`: the empty turn doesn't keep the others back
empty_turns : longest_groups (over (repeat 1 None true (capture 1 None (alt_all (empty ∷ a ∷ []))) ∷ []) (codes "aaa")) 4
    ≡ Some (Some 0 ∷ Some 3 ∷ Some 2 ∷ Some 3 ∷ [])
unfolding longest_groups longest_chosen
empty_turns = refl

-- `a*?` on `aa`: the list is 0..2
lazy : map triple_of (matches_by_kind leftmost_longest (over (repeat 0 None false a ∷ []) (codes "aa")) 0 None) ≡ (0, 0, 2) ∷ []
unfolding matches_by_kind longest longest_chosen
lazy = refl
