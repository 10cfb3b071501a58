-- The names of groups that a regex keeps, and how many slots they have.
use Rattle.std.proofs.Common.{◌≡◌, suc, ◌+◌, List, [], ◌∷◌, ◌++◌, length, map, Bool, false, ap, ap₂, ◌∙◌, sym, refl, arith}
use Rattle.std.proofs.lemmas.List.{length-map, length-append}
use Rattle.std.proofs.lemmas.List.Sums.{sum_by-cons}
use Rattle.rc_pattern.specs.Re.{Re, empty, literal, byte_in, char_in, look, repeat, capture, cat, alt, none}
use Rattle.rc_pattern.specs.WellFormed.{group_names, group_numbers, group_count}
use Rattle.rc_captures.specs.Names.{explicit_len, slot_len}
use Rattle.rc_program.specs.Program.{without_groups, shown}
use Rattle.rc_program.specs.Laws.{all_groups, slot_count}
use Rattle.rc_build.specs.Names.{names_shown}

-- without its groups a pattern has no names
pub group_names-without_groups : (h : Re) → group_names (without_groups h) ≡ []
group_names-without_groups empty = refl
group_names-without_groups (literal bs) = refl
group_names-without_groups (byte_in rs) = refl
group_names-without_groups (char_in rs) = refl
group_names-without_groups (look l) = refl
group_names-without_groups (repeat min max greedy a) = group_names-without_groups a
group_names-without_groups (capture n name a) = group_names-without_groups a
group_names-without_groups (cat a rest) = ap₂ ◌++◌ (group_names-without_groups a) (group_names-without_groups rest)
group_names-without_groups (alt a rest) = ap₂ ◌++◌ (group_names-without_groups a) (group_names-without_groups rest)
group_names-without_groups none = refl

-- so a regex that keeps the whole matches alone has none
pub no_names : (hs : List Re) → names_shown false hs ≡ map (λ _. []) hs
no_names [] = refl
no_names (h ∷ hs) = ap₂ ◌∷◌ (group_names-without_groups h) (no_names hs)

-- each group has its place among the names
pub length-group_names : (h : Re) → length (group_names h) ≡ group_count h
length-group_names empty = refl
length-group_names (literal bs) = refl
length-group_names (byte_in rs) = refl
length-group_names (char_in rs) = refl
length-group_names (look l) = refl
length-group_names (repeat min max greedy a) = length-group_names a
length-group_names (capture n name a) = ap suc (length-group_names a)
length-group_names (cat a rest) =
    length-append (group_names a) (group_names rest) ∙ ap₂ ◌+◌ (length-group_names a) (length-group_names rest)
    ∙ sym (length-append (group_numbers a) (group_numbers rest))
length-group_names (alt a rest) =
    length-append (group_names a) (group_names rest) ∙ ap₂ ◌+◌ (length-group_names a) (length-group_names rest)
    ∙ sym (length-append (group_numbers a) (group_numbers rest))
length-group_names none = refl

named_groups : (hs : List Re) → explicit_len (map group_names hs) ≡ all_groups hs
named_groups [] = refl
named_groups (h ∷ hs) = sum_by-cons length (group_names h) (map group_names hs) ∙ ap₂ ◌+◌ (length-group_names h) (named_groups hs)

-- the groups that are kept have as many slots as the program
pub slots_shown : (grouped : Bool) (hs : List Re) → slot_len (names_shown grouped hs) ≡ slot_count (shown grouped hs)
slots_shown grouped hs =
    let named = named_groups (shown grouped hs) in
    let many = length-map (shown grouped hs) group_names in
    omega (arith, named, many)
