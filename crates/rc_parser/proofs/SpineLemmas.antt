-- What a concatenation and an alternation have of their parts: groups, bounds and depth.
use Rattle.std.proofs.Common.{◌≡◌, ℕ, ◌+◌, ◌≤◌, max, List, [], ◌∷◌, ◌++◌, Option, map, refl, ap, sym, ◌∙◌, arith, append_assoc, append-nil}
use Rattle.std.specs.List.{flat_map}
use Rattle.rc_pattern.specs.Re.{Re, empty, literal, byte_in, char_in, look, repeat, capture, cat, alt, none}
use Rattle.rc_pattern.specs.Meaning.{cat_all, alt_all, cat_rest, cat_members, joins, joined, cat_of, concat_of, alt_rest, alt_members, alt_of, alternation_of}
use Rattle.rc_pattern.specs.WellFormed.{group_numbers, group_names, HasBounds, depth}

-- number and name
abbrev pub Numbered : Type 0
Numbered = ℕ × Option (List ℕ)

-- the groups of a pattern, in the order of their opening
abbrev pub groups : Re → List Numbered
groups (repeat min max greedy a) = groups a
groups (capture n name a) = (n, name) ∷ groups a
groups (cat a rest) = groups a ++ groups rest
groups (alt a rest) = groups a ++ groups rest
groups _ = []

abbrev number_in : Numbered → ℕ
number_in g = g.0

abbrev name_in : Numbered → Option (List ℕ)
name_in g = g.1

pub map-append : {A B : Type 0} (f : A → B) (xs ys : List A) → map f (xs ++ ys) ≡ map f xs ++ map f ys
map-append f [] ys = refl
map-append f (x ∷ xs) ys = ap (λ t. f x ∷ t) (map-append f xs ys)

pub numbers_are : (a : Re) → group_numbers a ≡ map (λ (g : Numbered). g.0) (groups a)
numbers_are empty = refl
numbers_are (literal bs) = refl
numbers_are (byte_in rs) = refl
numbers_are (char_in rs) = refl
numbers_are (look l) = refl
numbers_are (repeat min max greedy a) = numbers_are a
numbers_are (capture n name a) = ap (λ t. n ∷ t) (numbers_are a)
numbers_are (cat a rest) = ap (λ t. t ++ group_numbers rest) (numbers_are a) ∙ ap (λ t. map (λ (g : Numbered). g.0) (groups a) ++ t) (numbers_are rest)
    ∙ sym (map-append (λ (g : Numbered). g.0) (groups a) (groups rest))
numbers_are (alt a rest) = ap (λ t. t ++ group_numbers rest) (numbers_are a) ∙ ap (λ t. map (λ (g : Numbered). g.0) (groups a) ++ t) (numbers_are rest)
    ∙ sym (map-append (λ (g : Numbered). g.0) (groups a) (groups rest))
numbers_are none = refl

pub names_are : (a : Re) → group_names a ≡ map (λ (g : Numbered). g.1) (groups a)
names_are empty = refl
names_are (literal bs) = refl
names_are (byte_in rs) = refl
names_are (char_in rs) = refl
names_are (look l) = refl
names_are (repeat min max greedy a) = names_are a
names_are (capture n name a) = ap (λ t. name ∷ t) (names_are a)
names_are (cat a rest) = ap (λ t. t ++ group_names rest) (names_are a) ∙ ap (λ t. map (λ (g : Numbered). g.1) (groups a) ++ t) (names_are rest)
    ∙ sym (map-append (λ (g : Numbered). g.1) (groups a) (groups rest))
names_are (alt a rest) = ap (λ t. t ++ group_names rest) (names_are a) ∙ ap (λ t. map (λ (g : Numbered). g.1) (groups a) ++ t) (names_are rest)
    ∙ sym (map-append (λ (g : Numbered). g.1) (groups a) (groups rest))
names_are none = refl

-- the groups of some parts
abbrev pub all_groups : List Re → List Numbered
all_groups [] = []
all_groups (a ∷ res) = groups a ++ all_groups res

pub all_append : (xs ys : List Re) → all_groups (xs ++ ys) ≡ all_groups xs ++ all_groups ys
all_append [] ys = refl
all_append (a ∷ xs) ys = ap (λ t. groups a ++ t) (all_append xs ys) ∙ sym (append_assoc (groups a) (all_groups xs) (all_groups ys))

-- A concatenation ends in `empty`, an alternation in `none`, and so do those at their fronts.
pub data Place : Type 0 where
  front : Place
  in_cat : Place
  in_alt : Place

abbrev pub IsSpine : Place → Re → Type 0
IsSpine front (cat a rest) = IsSpine front a × IsSpine in_cat rest
IsSpine in_cat (cat a rest) = IsSpine front a × IsSpine in_cat rest
IsSpine in_alt (cat a rest) = ⊥
IsSpine front (alt a rest) = IsSpine front a × IsSpine in_alt rest
IsSpine in_cat (alt a rest) = ⊥
IsSpine in_alt (alt a rest) = IsSpine front a × IsSpine in_alt rest
IsSpine in_cat empty = Unit {0}
IsSpine in_alt none = Unit {0}
IsSpine front _ = Unit {0}
IsSpine in_cat _ = ⊥
IsSpine in_alt _ = ⊥

-- a pattern with its bounds in order, and at most d deep
pub record Fine (d : ℕ) (a : Re) : Type 0 where
  pub bounded : HasBounds a
  pub shallow : depth a ≤ d
  pub spine : IsSpine front a

abbrev pub AllFine : ℕ → List Re → Type 0
AllFine d [] = Unit {0}
AllFine d (a ∷ res) = Fine d a × AllFine d res

pub fine_more : (d e : ℕ) (a : Re) → d ≤ e → Fine d a → Fine e a
fine_more d e a l h = record { bounded = h.bounded; shallow = let s = h.shallow in omega (arith, l, s); spine = h.spine }

pub all_more : (d e : ℕ) (res : List Re) → d ≤ e → AllFine d res → AllFine e res
all_more d e [] l h = tt
all_more d e (a ∷ res) l h = (fine_more d e a l h.0, all_more d e res l h.1)

pub fine_append : (d : ℕ) (xs ys : List Re) → AllFine d xs → AllFine d ys → AllFine d (xs ++ ys)
fine_append d [] ys h g = g
fine_append d (a ∷ xs) ys h g = (h.0, fine_append d xs ys h.1 g)

fine_of : (d : ℕ) (a : Re) → HasBounds a → depth a ≤ d → IsSpine front a → Fine d a
fine_of d a b s p = record { bounded = b; shallow = s; spine = p }

-- ---- concatenations

rest_fine : (d : ℕ) (a : Re) → IsSpine in_cat a → HasBounds a → depth a ≤ d → AllFine d (cat_rest a)
rest_fine d empty p b s = tt
rest_fine d (literal bs) p b s = absurd p
rest_fine d (byte_in rs) p b s = absurd p
rest_fine d (char_in rs) p b s = absurd p
rest_fine d (look l) p b s = absurd p
rest_fine d (repeat min max greedy a) p b s = absurd p
rest_fine d (capture n name a) p b s = absurd p
rest_fine d (cat a rest) p b s = (fine_of d a b.0 (omega (arith, s)) p.0, rest_fine d rest p.1 b.1 (omega (arith, s)))
rest_fine d (alt a rest) p b s = absurd p
rest_fine d none p b s = absurd p

rest_groups : (a : Re) → IsSpine in_cat a → all_groups (cat_rest a) ≡ groups a
rest_groups empty p = refl
rest_groups (literal bs) p = absurd p
rest_groups (byte_in rs) p = absurd p
rest_groups (char_in rs) p = absurd p
rest_groups (look l) p = absurd p
rest_groups (repeat min max greedy a) p = absurd p
rest_groups (capture n name a) p = absurd p
rest_groups (cat a rest) p = ap (λ t. groups a ++ t) (rest_groups rest p.1)
rest_groups (alt a rest) p = absurd p
rest_groups none p = absurd p

one_group : (a : Re) → all_groups (a ∷ []) ≡ groups a
one_group a = append-nil (groups a)

members_fine : (d : ℕ) (a : Re) → Fine d a → AllFine d (cat_members a)
members_fine d empty h = tt
members_fine d (literal bs) h = (h, tt)
members_fine d (byte_in rs) h = (h, tt)
members_fine d (char_in rs) h = (h, tt)
members_fine d (look l) h = (h, tt)
members_fine d (repeat min max greedy a) h = (h, tt)
members_fine d (capture n name a) h = (h, tt)
members_fine d (cat a rest) h =
    let b = h.bounded in let s = h.shallow in let p = h.spine in
    (fine_of d a b.0 (omega (arith, s)) p.0, rest_fine d rest p.1 b.1 (omega (arith, s)))
members_fine d (alt a rest) h = (h, tt)
members_fine d none h = (h, tt)

members_groups : (d : ℕ) (a : Re) → Fine d a → all_groups (cat_members a) ≡ groups a
members_groups d empty h = refl
members_groups d (literal bs) h = refl
members_groups d (byte_in rs) h = refl
members_groups d (char_in rs) h = refl
members_groups d (look l) h = refl
members_groups d (repeat min max greedy a) h = one_group a
members_groups d (capture n name a) h = one_group (capture n name a)
members_groups d (cat a rest) h = ap (λ t. groups a ++ t) (rest_groups rest h.spine.1)
members_groups d (alt a rest) h = one_group (alt a rest)
members_groups d none h = refl

all_members_fine : (d : ℕ) (res : List Re) → AllFine d res → AllFine d (flat_map cat_members res)
all_members_fine d [] h = tt
all_members_fine d (a ∷ res) h = fine_append d (cat_members a) (flat_map cat_members res) (members_fine d a h.0) (all_members_fine d res h.1)

all_members_groups : (d : ℕ) (res : List Re) → AllFine d res → all_groups (flat_map cat_members res) ≡ all_groups res
all_members_groups d [] h = refl
all_members_groups d (a ∷ res) h = all_append (cat_members a) (flat_map cat_members res)
    ∙ ap (λ t. t ++ all_groups (flat_map cat_members res)) (members_groups d a h.0) ∙ ap (λ t. groups a ++ t) (all_members_groups d res h.1)

joins_fine : (d : ℕ) (a : Re) (res : List Re) → Fine d a → AllFine d res → AllFine d (joins a res)
joins_fine d (literal bs) (literal cs ∷ res) h g = (fine_of d (literal (bs ++ cs)) tt (h.shallow) tt, g.1)
joins_fine d (literal bs) [] h g = (h, g)
joins_fine d (literal bs) (empty ∷ res) h g = (h, g)
joins_fine d (literal bs) (byte_in rs ∷ res) h g = (h, g)
joins_fine d (literal bs) (char_in rs ∷ res) h g = (h, g)
joins_fine d (literal bs) (look l ∷ res) h g = (h, g)
joins_fine d (literal bs) (repeat min max greedy a ∷ res) h g = (h, g)
joins_fine d (literal bs) (capture n name a ∷ res) h g = (h, g)
joins_fine d (literal bs) (cat a rest ∷ res) h g = (h, g)
joins_fine d (literal bs) (alt a rest ∷ res) h g = (h, g)
joins_fine d (literal bs) (none ∷ res) h g = (h, g)
joins_fine d empty res h g = (h, g)
joins_fine d (byte_in rs) res h g = (h, g)
joins_fine d (char_in rs) res h g = (h, g)
joins_fine d (look l) res h g = (h, g)
joins_fine d (repeat min max greedy a) res h g = (h, g)
joins_fine d (capture n name a) res h g = (h, g)
joins_fine d (cat a rest) res h g = (h, g)
joins_fine d (alt a rest) res h g = (h, g)
joins_fine d none res h g = (h, g)

joins_groups : (a : Re) (res : List Re) → all_groups (joins a res) ≡ groups a ++ all_groups res
joins_groups (literal bs) (literal cs ∷ res) = refl
joins_groups (literal bs) [] = refl
joins_groups (literal bs) (empty ∷ res) = refl
joins_groups (literal bs) (byte_in rs ∷ res) = refl
joins_groups (literal bs) (char_in rs ∷ res) = refl
joins_groups (literal bs) (look l ∷ res) = refl
joins_groups (literal bs) (repeat min max greedy a ∷ res) = refl
joins_groups (literal bs) (capture n name a ∷ res) = refl
joins_groups (literal bs) (cat a rest ∷ res) = refl
joins_groups (literal bs) (alt a rest ∷ res) = refl
joins_groups (literal bs) (none ∷ res) = refl
joins_groups empty res = refl
joins_groups (byte_in rs) res = refl
joins_groups (char_in rs) res = refl
joins_groups (look l) res = refl
joins_groups (repeat min max greedy a) res = refl
joins_groups (capture n name a) res = refl
joins_groups (cat a rest) res = refl
joins_groups (alt a rest) res = refl
joins_groups none res = refl

joined_fine : (d : ℕ) (res : List Re) → AllFine d res → AllFine d (joined res)
joined_fine d [] h = tt
joined_fine d (a ∷ res) h = joins_fine d a (joined res) h.0 (joined_fine d res h.1)

joined_groups : (res : List Re) → all_groups (joined res) ≡ all_groups res
joined_groups [] = refl
joined_groups (a ∷ res) = joins_groups a (joined res) ∙ ap (λ t. groups a ++ t) (joined_groups res)

cat_all_groups : (res : List Re) → groups (cat_all res) ≡ all_groups res
cat_all_groups [] = refl
cat_all_groups (a ∷ res) = ap (λ t. groups a ++ t) (cat_all_groups res)

cat_of_groups : (res : List Re) → groups (cat_of res) ≡ all_groups res
cat_of_groups [] = refl
cat_of_groups (a ∷ []) = sym (one_group a)
cat_of_groups (a ∷ b ∷ res) = cat_all_groups (a ∷ b ∷ res)

cat_all_bounds : (d : ℕ) (res : List Re) → AllFine d res → HasBounds (cat_all res)
cat_all_bounds d [] h = tt
cat_all_bounds d (a ∷ res) h = (h.0.bounded, cat_all_bounds d res h.1)

cat_all_depth : (d : ℕ) (res : List Re) → AllFine d res → depth (cat_all res) ≤ d + 1
cat_all_depth d [] h = omega arith
cat_all_depth d (a ∷ res) h = let s = h.0.shallow in let r = cat_all_depth d res h.1 in omega (arith, s, r)

cat_all_spine : (d : ℕ) (res : List Re) → AllFine d res → IsSpine in_cat (cat_all res)
cat_all_spine d [] h = tt
cat_all_spine d (a ∷ res) h = (h.0.spine, cat_all_spine d res h.1)

cat_of_fine : (d : ℕ) (res : List Re) → AllFine d res → Fine (d + 1) (cat_of res)
cat_of_fine d [] h = fine_of (d + 1) empty tt (omega arith) tt
cat_of_fine d (a ∷ []) h = fine_more d (d + 1) a (omega arith) h.0
cat_of_fine d (a ∷ b ∷ res) h = fine_of (d + 1) (cat_all (a ∷ b ∷ res)) (cat_all_bounds d (a ∷ b ∷ res) h) (cat_all_depth d (a ∷ b ∷ res) h) (h.0.spine, cat_all_spine d (b ∷ res) h.1)

pub concat_fine : (d : ℕ) (res : List Re) → AllFine d res → Fine (d + 1) (concat_of res)
concat_fine d res h = cat_of_fine d (joined (flat_map cat_members res)) (joined_fine d (flat_map cat_members res) (all_members_fine d res h))

pub concat_groups : (d : ℕ) (res : List Re) → AllFine d res → groups (concat_of res) ≡ all_groups res
concat_groups d res h = cat_of_groups (joined (flat_map cat_members res)) ∙ joined_groups (flat_map cat_members res) ∙ all_members_groups d res h

-- ---- alternations

alt_rest_fine : (d : ℕ) (a : Re) → IsSpine in_alt a → HasBounds a → depth a ≤ d → AllFine d (alt_rest a)
alt_rest_fine d empty p b s = absurd p
alt_rest_fine d (literal bs) p b s = absurd p
alt_rest_fine d (byte_in rs) p b s = absurd p
alt_rest_fine d (char_in rs) p b s = absurd p
alt_rest_fine d (look l) p b s = absurd p
alt_rest_fine d (repeat min max greedy a) p b s = absurd p
alt_rest_fine d (capture n name a) p b s = absurd p
alt_rest_fine d (cat a rest) p b s = absurd p
alt_rest_fine d (alt a rest) p b s = (fine_of d a b.0 (omega (arith, s)) p.0, alt_rest_fine d rest p.1 b.1 (omega (arith, s)))
alt_rest_fine d none p b s = tt

alt_rest_groups : (a : Re) → IsSpine in_alt a → all_groups (alt_rest a) ≡ groups a
alt_rest_groups empty p = absurd p
alt_rest_groups (literal bs) p = absurd p
alt_rest_groups (byte_in rs) p = absurd p
alt_rest_groups (char_in rs) p = absurd p
alt_rest_groups (look l) p = absurd p
alt_rest_groups (repeat min max greedy a) p = absurd p
alt_rest_groups (capture n name a) p = absurd p
alt_rest_groups (cat a rest) p = absurd p
alt_rest_groups (alt a rest) p = ap (λ t. groups a ++ t) (alt_rest_groups rest p.1)
alt_rest_groups none p = refl

branches_fine : (d : ℕ) (a : Re) → Fine d a → AllFine d (alt_members a)
branches_fine d empty h = (h, tt)
branches_fine d (literal bs) h = (h, tt)
branches_fine d (byte_in rs) h = (h, tt)
branches_fine d (char_in rs) h = (h, tt)
branches_fine d (look l) h = (h, tt)
branches_fine d (repeat min max greedy a) h = (h, tt)
branches_fine d (capture n name a) h = (h, tt)
branches_fine d (cat a rest) h = (h, tt)
branches_fine d (alt a rest) h =
    let b = h.bounded in let s = h.shallow in let p = h.spine in
    (fine_of d a b.0 (omega (arith, s)) p.0, alt_rest_fine d rest p.1 b.1 (omega (arith, s)))
branches_fine d none h = tt

branches_groups : (d : ℕ) (a : Re) → Fine d a → all_groups (alt_members a) ≡ groups a
branches_groups d empty h = refl
branches_groups d (literal bs) h = refl
branches_groups d (byte_in rs) h = refl
branches_groups d (char_in rs) h = refl
branches_groups d (look l) h = refl
branches_groups d (repeat min max greedy a) h = one_group a
branches_groups d (capture n name a) h = one_group (capture n name a)
branches_groups d (cat a rest) h = one_group (cat a rest)
branches_groups d (alt a rest) h = ap (λ t. groups a ++ t) (alt_rest_groups rest h.spine.1)
branches_groups d none h = refl

all_branches_fine : (d : ℕ) (res : List Re) → AllFine d res → AllFine d (flat_map alt_members res)
all_branches_fine d [] h = tt
all_branches_fine d (a ∷ res) h = fine_append d (alt_members a) (flat_map alt_members res) (branches_fine d a h.0) (all_branches_fine d res h.1)

all_branches_groups : (d : ℕ) (res : List Re) → AllFine d res → all_groups (flat_map alt_members res) ≡ all_groups res
all_branches_groups d [] h = refl
all_branches_groups d (a ∷ res) h = all_append (alt_members a) (flat_map alt_members res)
    ∙ ap (λ t. t ++ all_groups (flat_map alt_members res)) (branches_groups d a h.0) ∙ ap (λ t. groups a ++ t) (all_branches_groups d res h.1)

alt_all_groups : (res : List Re) → groups (alt_all res) ≡ all_groups res
alt_all_groups [] = refl
alt_all_groups (a ∷ res) = ap (λ t. groups a ++ t) (alt_all_groups res)

alt_of_groups : (res : List Re) → groups (alt_of res) ≡ all_groups res
alt_of_groups [] = refl
alt_of_groups (a ∷ []) = sym (one_group a)
alt_of_groups (a ∷ b ∷ res) = alt_all_groups (a ∷ b ∷ res)

alt_all_bounds : (d : ℕ) (res : List Re) → AllFine d res → HasBounds (alt_all res)
alt_all_bounds d [] h = tt
alt_all_bounds d (a ∷ res) h = (h.0.bounded, alt_all_bounds d res h.1)

alt_all_depth : (d : ℕ) (res : List Re) → AllFine d res → depth (alt_all res) ≤ d + 1
alt_all_depth d [] h = omega arith
alt_all_depth d (a ∷ res) h = let s = h.0.shallow in let r = alt_all_depth d res h.1 in omega (arith, s, r)

alt_all_spine : (d : ℕ) (res : List Re) → AllFine d res → IsSpine in_alt (alt_all res)
alt_all_spine d [] h = tt
alt_all_spine d (a ∷ res) h = (h.0.spine, alt_all_spine d res h.1)

alt_of_fine : (d : ℕ) (res : List Re) → AllFine d res → Fine (d + 1) (alt_of res)
alt_of_fine d [] h = fine_of (d + 1) (byte_in []) tt (omega arith) tt
alt_of_fine d (a ∷ []) h = fine_more d (d + 1) a (omega arith) h.0
alt_of_fine d (a ∷ b ∷ res) h = fine_of (d + 1) (alt_all (a ∷ b ∷ res)) (alt_all_bounds d (a ∷ b ∷ res) h) (alt_all_depth d (a ∷ b ∷ res) h) (h.0.spine, alt_all_spine d (b ∷ res) h.1)

pub alternation_fine : (d : ℕ) (res : List Re) → AllFine d res → Fine (d + 1) (alternation_of res)
alternation_fine d res h = alt_of_fine d (flat_map alt_members res) (all_branches_fine d res h)

pub alternation_groups : (d : ℕ) (res : List Re) → AllFine d res → groups (alternation_of res) ≡ all_groups res
alternation_groups d res h = alt_of_groups (flat_map alt_members res) ∙ all_branches_groups d res h
