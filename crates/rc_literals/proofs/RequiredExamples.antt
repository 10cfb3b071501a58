-- Needles of some patterns, by the definition.
use Rattle.std.proofs.Common.{◌≡◌, [], ◌∷◌, true, false, Some, None, refl}
use Rattle.rc_pattern.specs.Re.{Re, empty, literal, byte_in, cat, alt, repeat, none}
use Rattle.rc_literals.specs.Required.{needed}

-- a small letter
abbrev letter : Re
letter = byte_in ((97, 122) ∷ [])

-- `[a-z]+ed[a-z]`: the literal in the middle
in_the_middle : needed false (cat (repeat 1 None true letter) (cat (literal (101 ∷ 100 ∷ [])) (cat letter empty))) ≡ Some ((101 ∷ 100 ∷ []) ∷ [])
in_the_middle = refl

-- `[a-z](ab|xyz)`: each member of an alternation has its own
of_each : needed false (cat letter (cat (alt (literal (97 ∷ 98 ∷ [])) (alt (literal (120 ∷ 121 ∷ 122 ∷ [])) none)) empty))
    ≡ Some ((97 ∷ 98 ∷ []) ∷ (120 ∷ 121 ∷ 122 ∷ []) ∷ [])
of_each = refl

-- `ab|[a-z]`: one member has none
one_has_none : needed false (alt (literal (97 ∷ 98 ∷ [])) (alt letter none)) ≡ None
one_has_none = refl

-- `(ab)*`: a body that may be left out needs nothing
left_out : needed false (repeat 0 None true (literal (97 ∷ 98 ∷ []))) ≡ None
left_out = refl

-- `a[a-z]bcd`: the longer literal
longer : needed false (cat (literal (97 ∷ [])) (cat letter (cat (literal (98 ∷ 99 ∷ 100 ∷ [])) empty))) ≡ Some ((98 ∷ 99 ∷ 100 ∷ []) ∷ [])
longer = refl

-- `ab[a-z]cd`: of two that are as long the first
first_of_two : needed false (cat (literal (97 ∷ 98 ∷ [])) (cat letter (cat (literal (99 ∷ 100 ∷ [])) empty))) ≡ Some ((97 ∷ 98 ∷ []) ∷ [])
first_of_two = refl

-- a digit
abbrev digit : Re
digit = byte_in ((48, 57) ∷ [])

-- `[0-1]:[0-1]`: with what is read behind it a byte is two needles
with_what_follows : needed true (cat (byte_in ((48, 49) ∷ [])) (cat (literal (58 ∷ [])) (cat (byte_in ((48, 49) ∷ [])) empty)))
    ≡ Some ((58 ∷ 48 ∷ []) ∷ (58 ∷ 49 ∷ []) ∷ [])
with_what_follows = refl

-- `[0-9]:[a-z]`: where much may follow, a byte stays alone
stays_alone : needed true (cat digit (cat (literal (58 ∷ [])) (cat letter empty))) ≡ Some ((58 ∷ []) ∷ [])
stays_alone = refl

-- `[0-9]ab[0-9]`: of two bytes it is no more than they are
of_two_bytes : needed true (cat digit (cat (literal (97 ∷ 98 ∷ [])) (cat digit empty))) ≡ Some ((97 ∷ 98 ∷ []) ∷ [])
of_two_bytes = refl

-- `[a-z](ab){3,}`: each copy that must be read
three_copies : needed false (cat letter (cat (repeat 3 None true (literal (97 ∷ 98 ∷ []))) empty)) ≡ Some ((97 ∷ 98 ∷ 97 ∷ 98 ∷ 97 ∷ 98 ∷ []) ∷ [])
three_copies = refl
