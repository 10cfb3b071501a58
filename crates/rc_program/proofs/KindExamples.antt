-- The kinds of answer, run on worked rows.
use Rattle.std.proofs.Common.{◌≡◌, ℕ, false, List, [], ◌∷◌, length, map, Some, None, refl, codes}
use Rattle.std.specs.Option.{option_map}
use Rattle.rc_text.specs.Found.{Found}
use Rattle.rc_text.specs.declared.types.Span.{Span}
use Rattle.rc_text.specs.declared.types.MatchKind.TheVariants.{All as all_matches, LeftmostFirst as leftmost_first}
use Rattle.rc_pattern.specs.Re.{Re, empty, literal, repeat}
use Rattle.rc_pattern.specs.Meaning.{alt_all}
use Rattle.rc_program.specs.Program.{program}
use Rattle.rc_program.specs.Answer.{Search, anywhere, at_start, by_pattern, answer, chosen}
use Rattle.rc_program.specs.Greatest.{greatest}
use Rattle.rc_program.specs.Kinds.{answer_by, matches_by_kind}
use Rattle.rc_program.specs.Matches.{pieces_of}

-- the search for these patterns over a content
abbrev pub over : List Re → List ℕ → Search
over hs content = record {
  places = program hs;
  text = record { content = content; slice_start = 0; slice_end = length content; terminator = 10 };
  lo = 0;
  hi = length content;
  anchoring = anywhere;
  passes_over = false;
}

-- pattern, start and end
abbrev pub triple_of : Found → ℕ × ℕ × ℕ
triple_of m = (m.pattern, m.start, m.end)

abbrev ends_of : Span → ℕ × ℕ
ends_of s = (s.start, s.end)

abbrev a : Re
a = literal (codes "a")

abbrev ab : Re
ab = literal (codes "ab")

-- `a|ab` on `ab`: the greatest is 0..2, the preferred 0..1
longest : option_map triple_of (answer_by all_matches (over (alt_all (a ∷ ab ∷ []) ∷ []) (codes "ab"))) ≡ Some (0, 0, 2)
unfolding greatest
longest = refl

preferred : option_map triple_of (answer_by leftmost_first (over (alt_all (a ∷ ab ∷ []) ∷ []) (codes "ab"))) ≡ Some (0, 0, 1)
unfolding answer chosen
preferred = refl

-- `a` on `aba`: the greatest is 2..3, and it is the whole list
last_one : option_map triple_of (answer_by all_matches (over (a ∷ []) (codes "aba"))) ≡ Some (0, 2, 3)
unfolding greatest
last_one = refl

last_alone : map triple_of (matches_by_kind all_matches (over (a ∷ []) (codes "aba")) 0 None) ≡ (0, 2, 3) ∷ []
unfolding matches_by_kind greatest
last_alone = refl

-- the pieces between are 0..2 and 3..3
last_pieces : map ends_of (pieces_of 3 (matches_by_kind all_matches (over (a ∷ []) (codes "aba")) 0 None)) ≡ (0, 2) ∷ (3, 3) ∷ []
unfolding matches_by_kind greatest
last_pieces = refl

-- the preferred ones are both
both : map triple_of (matches_by_kind leftmost_first (over (a ∷ []) (codes "aba")) 0 None) ≡ (0, 0, 1) ∷ (0, 2, 3) ∷ []
unfolding matches_by_kind answer chosen
both = refl

-- of two that end together the one with the lesser start: `ab|b` on `ab`
lesser_start : option_map triple_of (greatest (over (alt_all (literal (codes "b") ∷ ab ∷ []) ∷ []) (codes "ab"))) ≡ Some (0, 0, 2)
unfolding greatest
lesser_start = refl

-- of two with one span the lesser pattern, and that one alone where it is asked for
lesser_pattern : option_map triple_of (greatest (over (empty ∷ a ∷ a ∷ []) (codes "a"))) ≡ Some (1, 0, 1)
unfolding greatest
lesser_pattern = refl

asked_pattern : option_map triple_of (greatest (record (over (empty ∷ a ∷ a ∷ []) (codes "a")) { anchoring = by_pattern 2 })) ≡ Some (2, 0, 1)
unfolding greatest
asked_pattern = refl

-- anchored, `a` on `aba` is 0..1
anchored : option_map triple_of (greatest (record (over (a ∷ []) (codes "aba")) { anchoring = at_start })) ≡ Some (0, 0, 1)
unfolding greatest
anchored = refl

-- a lazy repetition goes as far as a greedy one: `a*?` on `aa`
lazy_goes_on : option_map triple_of (greatest (over (repeat 0 None false a ∷ []) (codes "aa"))) ≡ Some (0, 0, 2)
unfolding greatest
lazy_goes_on = refl

-- nothing where nothing is spelled, also from 1 to 0
nothing : option_map triple_of (greatest (over (a ∷ []) (codes "b"))) ≡ None
unfolding greatest
nothing = refl

past_hi : option_map triple_of (greatest (record (over (empty ∷ []) (codes "a")) { lo = 1; hi = 0 })) ≡ None
unfolding greatest
past_hi = refl
