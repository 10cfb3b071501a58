-- Thompson NFA: the program of a list of patterns, as numbered places and the ways between them.
use Rattle.std.specs.Prelude.{ℕ, zero, suc, ◌+◌, ◌-◌, ◌*◌, Bool, true, false, ◌&&◌, ◌||◌, List, [], ◌∷◌, ◌++◌, Option, Some, None, map, if◌then◌else◌, nat_eq, nat_le, slice_index_or, length}
use Rattle.rc_pattern.specs.Re.{Re, Range, empty, literal, byte_in, char_in, look, repeat, capture, cat, alt, none}
use Rattle.rc_pattern.specs.WellFormed.{group_count}
use Rattle.rc_pattern.specs.declared.hir.Look.{Look}
use Rattle.rc_walks.specs.Walks.{Pair}
use Rattle.rc_program.specs.Scalars.{scalar_at}
use Rattle.rc_program.specs.Text.{Text, holds, ahead}

-- One place. A number in it that isn't a range's or a slot's is the number of a place.
pub data Place : Type 0 where
  -- The ways out, in order of preference.
  choice : List ℕ → Place
  -- One byte of the ranges.
  byte : List Range → ℕ → Place
  -- One byte: for each range that has it, the way to that range's own place. Only byte programs
  -- have it.
  branch : List (Range × ℕ) → Place
  -- The bytes of one scalar of the ranges.
  scalar : List Range → ℕ → Place
  -- Passed if the assertion holds.
  guard : Look → ℕ → Place
  -- Names a slot.
  slot : ℕ → ℕ → Place
  -- The match place of a pattern.
  accept : ℕ → Place

-- A part of a program: how many places it has, and the places themselves. These depend on the slot
-- of group 1, on the number of the part's first place, at which it is entered, and on the place to
-- which it leads.
pub record Part : Type 0 where
  pub size : ℕ
  pub places : ℕ → ℕ → ℕ → List Place

-- A part of one place.
abbrev pub one : (ℕ → ℕ → Place) → Part
one place = record { size = 1; places = λ slots start next. place slots next ∷ [] }

-- One place, passed without reading.
abbrev pub pass : Part
pass = one (λ slots next. choice (next ∷ []))

-- No way on.
abbrev pub dead : Part
dead = one (λ slots next. choice [])

-- One after another.
abbrev pub then_part : Part → Part → Part
then_part a b = record {
  size = a.size + b.size;
  places = λ slots start next. a.places slots start (start + a.size) ++ b.places slots (start + a.size) next;
}

-- A choice of the first or the second, in this order.
abbrev pub either : Part → Part → Part
either a b = record {
  size = 1 + (a.size + b.size);
  places = λ slots start next. choice ((start + 1) ∷ (start + 1 + a.size) ∷ [])
      ∷ (a.places slots (start + 1) next ++ b.places slots (start + 1 + a.size) next);
}

-- Greedy puts the body first, lazy puts out first.
abbrev pub body_or_out : Bool → ℕ → ℕ → Place
body_or_out greedy body out = choice (if greedy then body ∷ out ∷ [] else out ∷ body ∷ [])

-- `a?`
abbrev pub optional : Bool → Part → Part
optional greedy a = record {
  size = 1 + a.size;
  places = λ slots start next. body_or_out greedy (start + 1) next ∷ a.places slots (start + 1) next;
}

-- `a+`
abbrev pub plus : Bool → Part → Part
plus greedy a = record {
  size = a.size + 1;
  places = λ slots start next. a.places slots start (start + a.size) ++ body_or_out greedy start next ∷ [];
}

-- n copies of a, and then b.
abbrev pub copies : ℕ → Part → Part → Part
copies zero a b = b
copies (suc n) a b = then_part a (copies n a b)

-- n optional copies of a, each nested in the one before.
abbrev pub up_to : Bool → ℕ → Part → Part
up_to greedy zero a = pass
up_to greedy (suc n) a = optional greedy (then_part a (up_to greedy n a))

-- min turns of a, and then more without bound.
abbrev pub at_least : ℕ → Bool → Part → Part
at_least zero greedy a = optional greedy (plus greedy a)
at_least (suc n) greedy a = copies n a (plus greedy a)

-- `a{min,max}`
abbrev pub repeated : ℕ → Option ℕ → Bool → Part → Part
repeated min None greedy a = at_least min greedy a
repeated min (Some max) greedy a = copies min a (up_to greedy (max - min) a)

-- The bytes in order.
abbrev pub bytes_in_order : ℕ → List ℕ → Part
bytes_in_order b [] = one (λ slots. byte ((b, b) ∷ []))
bytes_in_order b (c ∷ bs) = then_part (one (λ slots. byte ((b, b) ∷ []))) (bytes_in_order c bs)

abbrev pub literal_part : List ℕ → Part
literal_part [] = pass
literal_part (b ∷ bs) = bytes_in_order b bs

-- The part of a pattern.
abbrev pub part : Re → Part
part empty = pass
part (literal bs) = literal_part bs
part (byte_in rs) = one (λ slots. byte rs)
part (char_in rs) = one (λ slots. scalar rs)
part (look l) = one (λ slots. guard l)
part (repeat min max greedy a) = repeated min max greedy (part a)
part (capture n name a) =
    then_part (one (λ slots. slot (slots + 2 * (n - 1)))) (then_part (part a) (one (λ slots. slot (slots + 2 * (n - 1) + 1))))
part (cat a rest) = then_part (part a) (part rest)
part (alt a rest) = either (part a) (part rest)
part none = dead

-- Pattern p, with its group 1 at the slot s, and then its match place.
abbrev pub pattern_part : ℕ → ℕ → Re → Part
pattern_part p s h = record {
  size = (part h).size + 1;
  places = λ slots start next. (part h).places s start (start + (part h).size) ++ accept p ∷ [];
}

-- The choice among the patterns from number p on.
abbrev pub choice_of_patterns : ℕ → ℕ → List Re → Part
choice_of_patterns p s [] = dead
choice_of_patterns p s (h ∷ hs) = either (pattern_part p s h) (choice_of_patterns (p + 1) (s + 2 * group_count h) hs)

-- The program of a list of patterns, entered at place 0. The slots of groups come after two for
-- each pattern.
abbrev pub program : List Re → List Place
program hs = (choice_of_patterns 0 (2 * length hs) hs).places 0 0 0

-- The place at which pattern number p of the choice at `start` is entered.
abbrev pub entry_from : ℕ → List Re → ℕ → ℕ
entry_from start [] p = start
entry_from start (h ∷ hs) zero = start + 1
entry_from start (h ∷ hs) (suc p) = entry_from (start + 1 + ((part h).size + 1)) hs p

abbrev pub entry : List Re → ℕ → ℕ
entry = entry_from 0

-- The pattern with each group as its body.
abbrev pub without_groups : Re → Re
without_groups (repeat min max greedy a) = repeat min max greedy (without_groups a)
without_groups (capture n name a) = without_groups a
without_groups (cat a rest) = cat (without_groups a) (without_groups rest)
without_groups (alt a rest) = alt (without_groups a) (without_groups rest)
without_groups h = h

-- The patterns as their program has them: with their groups, or without.
abbrev pub shown : Bool → List Re → List Re
shown true hs = hs
shown false hs = map without_groups hs

-- A way out of a place: to a place at the same position, or over so many bytes.
pub data Way : Type 0 where
  stays : ℕ → Way
  reads : ℕ → ℕ → Way

-- The number is in one of the ranges.
abbrev pub in_ranges : List Range → ℕ → Bool
in_ranges [] b = false
in_ranges (r ∷ rs) b = (nat_le r.0 b && nat_le b r.1) || in_ranges rs b

-- The ways over the byte, one for each range that has it.
abbrev pub branch_ways : ℕ → List (Range × ℕ) → List Way
branch_ways b [] = []
branch_ways b (t ∷ ts) = if nat_le t.0.0 b && nat_le b t.0.1 then reads 1 t.1 ∷ branch_ways b ts else branch_ways b ts

-- The ways out over the first of the bytes.
abbrev pub over_byte : (ℕ → List Way) → List ℕ → List Way
over_byte ways [] = []
over_byte ways (b ∷ bs) = ways b

-- The ways out over the scalar ahead.
abbrev pub over_scalar : List Range → ℕ → Option (ℕ × ℕ) → List Way
over_scalar rs n None = []
over_scalar rs n (Some s) = if in_ranges rs s.0 then reads s.1 n ∷ [] else []

-- The ways out of a place, if `test` says which assertions hold and these bytes are ahead.
abbrev pub ways_out : (Look → Bool) → List ℕ → Place → List Way
ways_out test bytes (choice ns) = map stays ns
ways_out test bytes (byte rs n) = over_byte (λ b. if in_ranges rs b then reads 1 n ∷ [] else []) bytes
ways_out test bytes (branch ts) = over_byte (λ b. branch_ways b ts) bytes
ways_out test bytes (scalar rs n) = over_scalar rs n (scalar_at bytes)
ways_out test bytes (guard l n) = if test l then stays n ∷ [] else []
ways_out test bytes (slot k n) = stays n ∷ []
ways_out test bytes (accept p) = []

-- Where a way leads from position i.
abbrev pub pair_at : ℕ → Way → Pair
pair_at i (stays n) = (n, i)
pair_at i (reads count n) = (n, i + count)

-- The place of a number; one past the end has no way out.
abbrev pub place_at : List Place → ℕ → Place
place_at places q = slice_index_or places q (choice [])

-- The ways out of a pair, if no walk goes past hi.
abbrev pub ways : List Place → Text → ℕ → Pair → List Pair
ways places t hi n = map (pair_at n.1) (ways_out (λ l. holds t l n.1) (ahead t hi n.1) (place_at places n.0))

-- The match place of an allowed pattern; `None` allows all.
abbrev pub is_match_place : Option ℕ → Place → Bool
is_match_place None (accept p) = true
is_match_place (Some only) (accept p) = nat_eq p only
is_match_place only _ = false
