-- Prefixes of some patterns, by the definition.
use Rattle.std.proofs.Common.{◌≡◌, ℕ, [], ◌∷◌, true, Some, None, refl}
use Rattle.rc_pattern.specs.Re.{Re, empty, literal, byte_in, capture, cat, alt, none, repeat}
use Rattle.rc_literals.specs.Extraction.{first_bytes}

-- a letter in both cases
abbrev either : ℕ → ℕ → Re
either big small = byte_in ((big, big) ∷ (small, small) ∷ [])

-- `[Oo][Nn]x`: three bytes are no longer short
two_cases : first_bytes (cat (either 79 111) (cat (either 78 110) (cat (literal (120 ∷ [])) empty)))
    ≡ Some ((79 ∷ 78 ∷ 120 ∷ []) ∷ (79 ∷ 110 ∷ 120 ∷ []) ∷ (111 ∷ 78 ∷ 120 ∷ []) ∷ (111 ∷ 110 ∷ 120 ∷ []) ∷ [])
two_cases = refl

-- `fn [a-z]`: nothing lengthens it
long_enough : first_bytes (cat (literal (102 ∷ 110 ∷ 32 ∷ [])) (cat (byte_in ((97, 122) ∷ [])) empty)) ≡ Some ((102 ∷ 110 ∷ 32 ∷ []) ∷ [])
long_enough = refl

-- `[ab]c*`: what may be left out lengthens nothing
left_out : first_bytes (cat (byte_in ((97, 98) ∷ [])) (cat (repeat 0 None true (literal (99 ∷ []))) empty)) ≡ Some ((97 ∷ []) ∷ (98 ∷ []) ∷ [])
left_out = refl

-- two bytes and twenty-five behind them: fifty are too many
too_many : first_bytes (cat (byte_in ((48, 49) ∷ [])) (cat (byte_in ((48, 72) ∷ [])) empty)) ≡ Some ((48 ∷ []) ∷ (49 ∷ []) ∷ [])
too_many = refl

-- `(fn|do|match) `: a group is lengthened by what stands behind it, since one of its words is short
words_in_group : first_bytes (cat (capture 1 None (alt (literal (102 ∷ 110 ∷ [])) (alt (literal (100 ∷ 111 ∷ []))
    (alt (literal (109 ∷ 97 ∷ 116 ∷ 99 ∷ 104 ∷ [])) none)))) (cat (literal (32 ∷ [])) empty))
    ≡ Some ((102 ∷ 110 ∷ 32 ∷ []) ∷ (100 ∷ 111 ∷ 32 ∷ []) ∷ (109 ∷ 97 ∷ 116 ∷ 99 ∷ 104 ∷ 32 ∷ []) ∷ [])
words_in_group = refl

-- `(a|b)(c|d)x`
group_behind_group : first_bytes (cat (capture 1 None (byte_in ((97, 98) ∷ []))) (cat (capture 2 None (alt (literal (99 ∷ [])) (alt (literal (100 ∷ [])) none)))
    (cat (literal (120 ∷ [])) empty)))
    ≡ Some ((97 ∷ 99 ∷ 120 ∷ []) ∷ (97 ∷ 100 ∷ 120 ∷ []) ∷ (98 ∷ 99 ∷ 120 ∷ []) ∷ (98 ∷ 100 ∷ 120 ∷ []) ∷ [])
group_behind_group = refl

-- `(?:foo|ba)r`
one_short : first_bytes (cat (alt (literal (102 ∷ 111 ∷ 111 ∷ [])) (alt (literal (98 ∷ 97 ∷ [])) none)) (cat (literal (114 ∷ [])) empty))
    ≡ Some ((102 ∷ 111 ∷ 111 ∷ 114 ∷ []) ∷ (98 ∷ 97 ∷ 114 ∷ []) ∷ [])
one_short = refl

-- `(a|)b`: with an empty alternative nothing is known
empty_alternative : first_bytes (cat (capture 1 None (alt (literal (97 ∷ [])) (alt empty none))) (cat (literal (98 ∷ [])) empty)) ≡ None
empty_alternative = refl

-- `(ab|c*)d`: nor where an alternative may spell what isn't known
left_out_in_group : first_bytes (cat (capture 1 None (alt (literal (97 ∷ 98 ∷ [])) (alt (repeat 0 None true (literal (99 ∷ []))) none)))
    (cat (literal (100 ∷ [])) empty)) ≡ None
left_out_in_group = refl

-- `a(b|c+)`: what isn't known behind lengthens nothing
unknown_behind : first_bytes (cat (literal (97 ∷ [])) (cat (capture 1 None (alt (literal (98 ∷ [])) (alt (repeat 1 None true (literal (99 ∷ []))) none))) empty))
    ≡ Some ((97 ∷ []) ∷ [])
unknown_behind = refl

-- `a{4,9}b`: each of four copies must be read
copies : first_bytes (cat (repeat 4 (Some 9) true (literal (97 ∷ []))) (cat (literal (98 ∷ [])) empty)) ≡ Some ((97 ∷ 97 ∷ 97 ∷ 97 ∷ []) ∷ [])
copies = refl

-- `[ab]{5}`: three bytes are no longer short
copied_class : first_bytes (repeat 5 (Some 5) true (byte_in ((97, 98) ∷ [])))
    ≡ Some ((97 ∷ 97 ∷ 97 ∷ []) ∷ (97 ∷ 97 ∷ 98 ∷ []) ∷ (97 ∷ 98 ∷ 97 ∷ []) ∷ (97 ∷ 98 ∷ 98 ∷ [])
    ∷ (98 ∷ 97 ∷ 97 ∷ []) ∷ (98 ∷ 97 ∷ 98 ∷ []) ∷ (98 ∷ 98 ∷ 97 ∷ []) ∷ (98 ∷ 98 ∷ 98 ∷ []) ∷ [])
copied_class = refl

-- `[0-9]{4}`: a hundred are too many
many_copies : first_bytes (repeat 4 (Some 4) true (byte_in ((48, 49) ∷ (50, 57) ∷ []))) ≡ first_bytes (byte_in ((48, 49) ∷ (50, 57) ∷ []))
many_copies = refl
