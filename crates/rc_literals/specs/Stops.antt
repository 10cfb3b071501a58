-- Only proofs use this file.
-- Alphabet: the bytes that a pattern reads, and a set of those that none reads.
use Rattle.std.specs.Prelude.{◌≡◌, ℕ, Bool, false, ◌&&◌, ◌||◌, not, List, [], ◌∷◌, nat_eq, nat_le, nat_lt, if◌then◌else◌}
use Rattle.rc_pattern.specs.Re.{Re, Range, empty, literal, byte_in, char_in, look, repeat, capture, cat, alt, none}
use Rattle.rc_program.specs.Program.{in_ranges}
use Rattle.rc_literals.specs.Needs.{is_stop}

-- The byte is one of these.
abbrev pub among : List ℕ → ℕ → Bool
among [] b = false
among (c ∷ cs) b = nat_eq c b || among cs b

-- Some range ends at a scalar that takes more than one byte.
abbrev pub reach_far : List Range → Bool
reach_far [] = false
reach_far (r ∷ rs) = nat_le 128 r.1 || reach_far rs

-- A text that the pattern spells may have the byte. A scalar below 128 is the byte, and the bytes
-- of each other scalar are 128 or more.
abbrev pub reads : Re → ℕ → Bool
reads empty b = false
reads (literal bs) b = among bs b
reads (byte_in rs) b = in_ranges rs b
reads (char_in rs) b = if nat_lt b 128 then in_ranges rs b else reach_far rs
reads (look l) b = false
reads (repeat min max greedy a) b = reads a b
reads (capture n name a) b = reads a b
reads (cat a rest) b = reads a b || reads rest b
reads (alt a rest) b = reads a b || reads rest b
reads none b = false

-- The bytes of the new set are those of the old one that are not read.
abbrev pub Leaves : List Bool → List Bool → (ℕ → Bool) → Type 0
Leaves old new read = (b : ℕ) → is_stop new b ≡ (is_stop old b && not (read b))
