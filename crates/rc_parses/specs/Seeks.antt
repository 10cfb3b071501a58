-- Only proofs use this file.
-- Least parses: the least parse as a function. Trees are tried in order, and each is handed on with
-- its end to what follows.
use Rattle.std.specs.Prelude.{ℕ, zero, suc, ◌+◌, ◌-◌, Bool, true, false, List, [], ◌∷◌, Option, Some, None, if◌then◌else◌}
use Rattle.std.specs.Option.{option_or}
use Rattle.rc_pattern.specs.Re.{Re, Range, empty, literal, byte_in, char_in, look, repeat, capture, cat, alt, none}
use Rattle.rc_program.specs.Text.{Text, holds, ahead}
use Rattle.rc_program.specs.Program.{in_ranges}
use Rattle.rc_program.specs.Scalars.{scalar_at}
use Rattle.rc_parses.specs.Parses.{Tree, leaf, joined, this, other, stop, turn, group}

-- The continuation after a tree that ends at a position.
abbrev pub Then : Type 0 → Type 0
Then O = Tree → ℕ → Option O

-- From a position, with what follows.
abbrev pub Seek : Type 0 → Type 0
Seek O = ℕ → Then O → Option O

abbrev pub in_order : {O : Type 0} → Bool → Option O → Option O → Option O
in_order true body out = option_or body out
in_order false body out = option_or out body

-- At most so many turns.
abbrev pub may : {O : Type 0} → Seek O → Bool → ℕ → Seek O
may F greedy zero i k = k stop i
may F greedy (suc n) i k = in_order greedy (F i (λ x m. may F greedy n m (λ xs j. k (turn x xs) j))) (k stop i)

-- So many turns, and then those of G.
abbrev pub must : {O : Type 0} → Seek O → ℕ → Seek O → Seek O
must F zero G i k = G i k
must F (suc n) G i k = F i (λ x m. must F n G m (λ xs j. k (turn x xs) j))

-- One turn at least; each turn reads a byte, and none goes past hi.
abbrev pub some_turns : {O : Type 0} → ℕ → Seek O → Bool → Seek O
some_turns hi F greedy i k = F i (λ x m. may F greedy (suc (hi - m)) m (λ xs j. k (turn x xs) j))

abbrev pub all_turns : {O : Type 0} → ℕ → Seek O → ℕ → Option ℕ → Bool → Seek O
all_turns hi F zero None greedy i k = may F greedy (suc (hi - i)) i k
all_turns hi F (suc n) None greedy i k = must F n (some_turns hi F greedy) i k
all_turns hi F min (Some max) greedy i k = must F min (may F greedy (max - min)) i k

-- Over the first of the bytes, if it is in the ranges.
abbrev pub on_byte : {O : Type 0} → List Range → List ℕ → (List ℕ → Option O) → Option O
on_byte rs [] k = None
on_byte rs (a ∷ ahead) k = if in_ranges rs a then k ahead else None

-- Over these bytes.
abbrev pub over_bytes : {O : Type 0} → List ℕ → List ℕ → ℕ → (ℕ → Option O) → Option O
over_bytes [] ahead i k = k i
over_bytes (b ∷ bs) ahead i k = on_byte ((b, b) ∷ []) ahead (λ rest. over_bytes bs rest (i + 1) k)

-- Over one byte.
abbrev pub over_class : {O : Type 0} → List Range → List ℕ → ℕ → (ℕ → Option O) → Option O
over_class rs ahead i k = on_byte rs ahead (λ rest. k (i + 1))

-- Over one scalar.
abbrev pub over_char : {O : Type 0} → List Range → Option (ℕ × ℕ) → ℕ → (ℕ → Option O) → Option O
over_char rs None i k = None
over_char rs (Some s) i k = if in_ranges rs s.0 then k (i + s.1) else None

-- The first parse from i that ends at hi or earlier and for which what follows succeeds.
abbrev pub seek : {O : Type 0} → Text → ℕ → Re → Seek O
seek t hi empty i k = k leaf i
seek t hi (literal bs) i k = over_bytes bs (ahead t hi i) i (k leaf)
seek t hi (byte_in rs) i k = over_class rs (ahead t hi i) i (k leaf)
seek t hi (char_in rs) i k = over_char rs (scalar_at (ahead t hi i)) i (k leaf)
seek t hi (look l) i k = if holds t l i then k leaf i else None
seek t hi (repeat min max greedy a) i k = all_turns hi (seek t hi a) min max greedy i k
seek t hi (capture n name a) i k = seek t hi a i (λ x j. k (group n i j x) j)
seek t hi (cat a rest) i k = seek t hi a i (λ x m. seek t hi rest m (λ y j. k (joined x y) j))
seek t hi (alt a rest) i k = option_or (seek t hi a i (λ x j. k (this x) j)) (seek t hi rest i (λ x j. k (other x) j))
seek t hi none i k = None
