-- Over which bytes walks may go on, run on the program of `(?:a|\b)c?` and on places of scalars.
use Rattle.std.proofs.Common.{◌≡◌, ℕ, true, false, List, [], ◌∷◌, map, Some, refl, codes, arith}
use Rattle.std.specs.Char.{encode_utf8}
use Rattle.rc_pattern.specs.Re.{literal, look, repeat}
use Rattle.rc_pattern.specs.Meaning.{cat_all, alt_all}
use Rattle.rc_pattern.specs.declared.hir.Look.TheVariants.{WordUnicode}
use Rattle.rc_program.specs.Program.{Place, scalar, program}
use Rattle.rc_program.specs.Heads.{silent, here, on, may_take, MayGoOn}

abbrev places : List Place
places = program (cat_all (alt_all (literal (codes "a") ∷ look WordUnicode ∷ []) ∷ repeat 0 (Some 1) true (literal (codes "c")) ∷ []) ∷ [])

-- the ways of each of the twelve places that read nothing: place 4 is the assertion, which is passed as if it held
silent_ways : map silent places
    ≡ (1 ∷ 11 ∷ []) ∷ (2 ∷ 3 ∷ []) ∷ [] ∷ (4 ∷ 5 ∷ []) ∷ (6 ∷ []) ∷ [] ∷ (7 ∷ 9 ∷ []) ∷ [] ∷ (9 ∷ []) ∷ (10 ∷ []) ∷ [] ∷ [] ∷ []
silent_ways = refl

-- which places take `c`: place 7 reads it, and at place 10 a walk ends
take_c : map (λ q. may_take q 99) places
    ≡ false ∷ false ∷ false ∷ false ∷ false ∷ false ∷ false ∷ true ∷ false ∷ false ∷ true ∷ false ∷ []
take_c = refl

-- which take `a`
take_a : map (λ q. may_take q 97) places
    ≡ false ∷ false ∷ true ∷ false ∷ false ∷ false ∷ false ∷ false ∷ false ∷ false ∷ true ∷ false ∷ []
take_a = refl

-- from place 3, past the assertion, a walk may go on over `c`
past_assertion : MayGoOn places 3 99
past_assertion = ∣ (7, on 4 (0, omega arith, refl) (on 6 (0, omega arith, refl) (on 7 (0, omega arith, refl) here)), refl) ∣₁

-- it may end before any byte, as `c` may be left out
may_end : (b : ℕ) → MayGoOn places 6 b
may_end b = ∣ (10, on 9 (1, omega arith, refl) (on 10 (0, omega arith, refl) here), refl) ∣₁

-- over `[a-zà-ÿ]`: C3 begins each of its letters past ASCII
latin : map (may_take (scalar ((97, 122) ∷ (0xE0, 0xFF) ∷ []) 0)) (96 ∷ 97 ∷ 122 ∷ 123 ∷ 128 ∷ 0xC2 ∷ 0xC3 ∷ 0xC4 ∷ [])
    ≡ false ∷ true ∷ true ∷ false ∷ false ∷ false ∷ true ∷ false ∷ []
unfolding encode_utf8
latin = refl

-- over `[а-я]`: the bytes 208 and 209 begin its letters; none of those that go on with one does, nor 228
cyrillic : map (may_take (scalar ((0x430, 0x44F) ∷ []) 0)) (0x7F ∷ 0x80 ∷ 0xBF ∷ 0xCF ∷ 0xD0 ∷ 0xD1 ∷ 0xD2 ∷ 0xE4 ∷ [])
    ≡ false ∷ false ∷ false ∷ false ∷ true ∷ true ∷ false ∷ false ∷ []
unfolding encode_utf8
cyrillic = refl

-- over a class of all characters: no byte from F5 on begins one
all : map (may_take (scalar ((0, 0x10_FFFF) ∷ []) 0)) (0 ∷ 0xF4 ∷ 0xF5 ∷ []) ≡ true ∷ true ∷ false ∷ []
unfolding encode_utf8
all = refl
