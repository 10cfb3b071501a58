-- Worked rows of the definitions.
use Rattle.std.proofs.Common.{◌≡◌, List, [], ◌∷◌, map, Some, None, true, false, true≢false, refl, sym, ⊎_elim, arith}
use Rattle.unicode.proofs.CategoryComputing.{ucd_category}
use Rattle.unicode.proofs.DerivedComputing.{ucd_derived}
use Rattle.rc_pattern.specs.declared.hir.Look.TheVariants.{EndLF, WordAscii, WordUnicode, WordUnicodeNegate, WordStartHalfUnicode, WordEndHalfUnicode, StartCRLF}
use Rattle.rc_program.specs.Looks.{stands}
use Rattle.rc_program.specs.Program.{Place, byte, guard, accept, stays}
use Rattle.rc_determinize.specs.declared.sides.Seen.{Seen}
use Rattle.rc_determinize.specs.declared.sides.Asked.{Asked}
use Rattle.rc_determinize.specs.Steps.{Steps, out_of_ways, hands_on, comes_back}
use Rattle.rc_determinize.specs.Sides.{seen_of, holds_by, told, told_side, asking, out_seen}
use Rattle.rc_determinize.specs.States.{is_match, best_at}
use Rattle.rc_determinize.specs.Classes.{is_border}
use Rattle.rc_determinize.specs.Machine.{add_all}

abbrev nothing : Asked
nothing = record { facts = record { edge = false; terminator = false; line_feed = false; carriage_return = false; word = false }; unicode = false }

abbrev edge : Seen
edge = record { edge = true; terminator = false; line_feed = false; carriage_return = false; word = false; letter = false; broken = false }

abbrev none : Seen
none = record { edge = false; terminator = false; line_feed = false; carriage_return = false; word = false; letter = false; broken = false }

-- what is told of a letter, of an LF that is the terminator, and of the end
letter : seen_of 10 (Some 97) ≡ record { edge = false; terminator = false; line_feed = false; carriage_return = false; word = true; letter = true; broken = false }
unfolding ucd_category ucd_derived
letter = refl

line_feed : seen_of 10 (Some 10) ≡ record { edge = false; terminator = true; line_feed = true; carriage_return = false; word = false; letter = false; broken = false }
unfolding ucd_category ucd_derived
line_feed = refl

at_end : seen_of 10 None ≡ edge
at_end = refl

-- a program without assertions is told nothing
unasked : told nothing 10 (Some 97) ≡ none
unasked = refl

-- `\b` asks for words, and `$` with `m` for the edge and the terminator
words_asked : told (asking WordAscii nothing) 10 (Some 97) ≡ record { edge = false; terminator = false; line_feed = false; carriage_return = false; word = true; letter = false; broken = false }
words_asked = refl

lines_asked : told (asking EndLF nothing) 10 (Some 10) ≡ record { edge = false; terminator = true; line_feed = false; carriage_return = false; word = false; letter = false; broken = false }
lines_asked = refl

-- no line begins between a CR and an LF
inside_crlf : holds_by (seen_of 10 (Some 13)) (seen_of 10 (Some 10)) StartCRLF ≡ false
inside_crlf = refl

after_cr : holds_by (seen_of 10 (Some 13)) (seen_of 10 (Some 97)) StartCRLF ≡ true
after_cr = refl

-- the last match that was met
met : best_at 4 (Some 2) (Some (2, 1)) ≡ Some (2, 4)
met = refl

not_met : best_at 4 None (Some (2, 1)) ≡ Some (2, 1)
not_met = refl

each_once : add_all (3 ∷ []) (5 ∷ 3 ∷ 5 ∷ 4 ∷ []) ≡ 3 ∷ 5 ∷ 4 ∷ []
each_once = refl

-- `\ba`: a guard, a byte and the match place
abbrev word_a : List Place
word_a = guard WordAscii 1 ∷ byte ((97, 97) ∷ []) 2 ∷ accept 0 ∷ []

-- of the bytes around `a` only those stand on a border
before_a : is_border word_a nothing 10 96 ≡ true
before_a = refl

after_a : is_border word_a nothing 10 97 ≡ true
after_a = refl

past_a : is_border word_a nothing 10 98 ≡ false
past_a = refl

-- where words are asked for, `z` stands on one too
after_z : is_border word_a (asking WordAscii nothing) 10 122 ≡ true
after_z = refl

-- where Unicode's words are asked for, bytes up to 127 are read and the others aren't
after_ascii : is_border word_a (asking WordUnicode nothing) 10 127 ≡ true
unfolding ucd_category ucd_derived
after_ascii = refl

-- and `é` is told apart from the sign of multiplication, and from a byte that is no scalar
word_sides : map (λ side. told_side (asking WordUnicode nothing) 10 side) (stands 0xC3 (Some 0xE9) ∷ stands 0xC3 (Some 0xD7) ∷ stands 0xC3 None ∷ [])
    ≡ record none { letter = true } ∷ none ∷ record none { broken = true } ∷ []
unfolding ucd_category ucd_derived
word_sides = refl

-- at a byte that is no scalar neither the assertion nor its negation holds
broken_sides : map (holds_by (record none { broken = true }) none) (WordUnicode ∷ WordUnicodeNegate ∷ WordStartHalfUnicode ∷ WordEndHalfUnicode ∷ [])
    ≡ false ∷ false ∷ false ∷ true ∷ []
broken_sides = refl

-- A step: `a` stands ahead and an edge behind, so the assertion holds, and the byte leads to the match place.
enters_word : Steps (out_seen word_a (asking WordAscii nothing) 10 none (Some 97)) (is_match word_a) [] (stays 0 ∷ []) (2 ∷ []) None (1 ∷ 0 ∷ [])
enters_word =
    comes_back 0 (λ h. h) (λ h. true≢false (sym h))
    (comes_back 1 (λ h. ⊎_elim (λ e. absurd (omega (arith, e))) (λ never. never) h) (λ h. true≢false (sym h)) (hands_on 2 out_of_ways) out_of_ways)
    out_of_ways
