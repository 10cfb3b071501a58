-- The least parse of worked patterns.
use Rattle.std.proofs.Common.{◌≡◌, ℕ, List, [], ◌∷◌, true, false, Option, Some, None, refl}
use Rattle.rc_pattern.specs.Re.{Re, literal, repeat, cat, alt, none}
use Rattle.rc_program.specs.Text.{Text}
use Rattle.rc_parses.specs.Parses.{Tree, leaf, joined, this, other, stop, turn, group, group_of}
use Rattle.rc_parses.specs.Seeks.{seek}

text_of : List ℕ → Text
text_of bytes = record { content = bytes; slice_start = 0; slice_end = 4; terminator = 10 }

-- the least parse from 0 and its end
least_of : Re → List ℕ → Option (Tree × ℕ)
unfolding text_of
least_of h bytes = seek (text_of bytes) 4 h 0 (λ x j. Some (x, j))

-- (?:a{1,2}?){2} on aaaa ends at 2
two_lazy : least_of (repeat 2 (Some 2) true (repeat 1 (Some 2) false (literal (97 ∷ [])))) (97 ∷ 97 ∷ 97 ∷ 97 ∷ [])
    ≡ Some (turn (turn leaf stop) (turn (turn leaf stop) stop), 2)
unfolding least_of text_of
two_lazy = refl

-- (?:a|ab)(?:c|bcd)d* on abcd ends at 4, by a and bcd
longer : least_of (cat (alt (literal (97 ∷ [])) (alt (literal (97 ∷ 98 ∷ [])) none))
    (cat (alt (literal (99 ∷ [])) (alt (literal (98 ∷ 99 ∷ 100 ∷ [])) none)) (repeat 0 None true (literal (100 ∷ []))))) (97 ∷ 98 ∷ 99 ∷ 100 ∷ [])
    ≡ Some (joined (this leaf) (joined (other (this leaf)) stop), 4)
unfolding least_of text_of
longer = refl

-- a group has its last turn, and one that takes no part in it the turn before
last_turn : group_of 1 (turn (group 1 0 1 leaf) (turn (group 1 1 2 leaf) stop)) ≡ Some (1, 2)
last_turn = refl

turn_before : group_of 1 (turn (this (group 1 0 1 leaf)) (turn (other (this leaf)) stop)) ≡ Some (0, 1)
turn_before = refl
