-- The program of a list of patterns, pattern by pattern.
use Rattle.std.proofs.Common.{◌≡◌, ℕ, zero, suc, ◌+◌, ◌*◌, ◌<◌, ◌≤◌, List, [], ◌∷◌, ◌++◌, length, map, drop, get_or, Option, Some, None, Bool, true, false, sym, ap, ap₂, ◌∙◌, refl, arith, append_assoc, subst, vec_len, Vec, Global}
use Rattle.std.specs.Prelude.{All}
use Rattle.std.specs.List.{AllByRecursion, range_with_len}
use Rattle.std.proofs.Math.Nat.{mul-le-mul_right}
use Rattle.std.proofs.lemmas.List.{length-append, length-map, drop_all}
use Rattle.std.proofs.lemmas.List.Elements.{All-head, All-tail, All-weaker}
use Rattle.rc_pattern.specs.Re.{Re, empty, literal, byte_in, char_in, look, repeat, capture, cat, alt, none}
use Rattle.rc_pattern.specs.Meaning.{meaning}
use Rattle.rc_pattern.specs.Weight.{weight, copies_of, sum_of_weights, list_weight}
use Rattle.rc_pattern.specs.WellFormed.{IsWellFormed, HasBounds, group_numbers, group_count}
use Rattle.rc_pattern.specs.declared.hir.Hir.{Hir}
use Rattle.rc_pattern.proofs.FoldLemmas.{members_from}
use Rattle.rc_program.specs.Program.{Place, Part, choice, either, pattern_part, choice_of_patterns, program, without_groups, shown}
use Rattle.rc_program.specs.Laws.{all_groups}
use Rattle.rc_program.proofs.PlaceLemmas.{length-program}
use Rattle.rc_program.proofs.WeightLemmas.{program_small}
use Rattle.rc_program.proofs.GroupLemmas.{shown_lighter, shown_all, without_groups_bounded, group_numbers-without_groups}
use Rattle.rc_program.specs.Places.{places_of}
use Rattle.rc_compile.specs.Shown.{greatest_group, shown_one, laid}
use Rattle.rc_program.specs.declared.place.Place as code
use Rattle.rc_compile.proofs.EmitLemmas.{Emits}

-- each number is one that a group of a light pattern may have
abbrev pub AreSmall : List ℕ → Type 0
AreSmall = AllByRecursion (λ n. n ≤ greatest_group)

small_left : (xs ys : List ℕ) → AreSmall (xs ++ ys) → AreSmall xs
small_left [] ys h = tt
small_left (x ∷ xs) ys h = (h.0, small_left xs ys h.1)

small_right : (xs ys : List ℕ) → AreSmall (xs ++ ys) → AreSmall ys
small_right [] ys h = h
small_right (x ∷ xs) ys h = small_right xs ys h.1

-- a pattern whose groups have small numbers is shown with its groups as it is
whole : (h : Re) → AreSmall (group_numbers h) → shown_one true h ≡ h
whole empty s = refl
whole (literal bs) s = refl
whole (byte_in rs) s = refl
whole (char_in rs) s = refl
whole (look l) s = refl
whole (repeat least most greedy a) s = ap (repeat least most greedy) (whole a s)
whole (capture n name a) s =
    ap₂ (λ k b. capture k name b) (let h = s.0 in omega (arith, h)) (whole a s.1)
whole (cat a rest) s =
    ap₂ cat (whole a (small_left (group_numbers a) (group_numbers rest) s)) (whole rest (small_right (group_numbers a) (group_numbers rest) s))
whole (alt a rest) s =
    ap₂ alt (whole a (small_left (group_numbers a) (group_numbers rest) s)) (whole rest (small_right (group_numbers a) (group_numbers rest) s))
whole none s = refl

bare : (h : Re) → shown_one false h ≡ without_groups h
bare empty = refl
bare (literal bs) = refl
bare (byte_in rs) = refl
bare (char_in rs) = refl
bare (look l) = refl
bare (repeat least most greedy a) = ap (repeat least most greedy) (bare a)
bare (capture n name a) = bare a
bare (cat a rest) = ap₂ cat (bare a) (bare rest)
bare (alt a rest) = ap₂ alt (bare a) (bare rest)
bare none = refl

-- as many groups are shown as there are
count_whole : (h : Re) → group_count (shown_one true h) ≡ group_count h
count_whole empty = refl
count_whole (literal bs) = refl
count_whole (byte_in rs) = refl
count_whole (char_in rs) = refl
count_whole (look l) = refl
count_whole (repeat least most greedy a) = count_whole a
count_whole (capture n name a) = ap suc (count_whole a)
count_whole (cat a rest) =
    length-append (group_numbers (shown_one true a)) (group_numbers (shown_one true rest)) ∙ ap₂ ◌+◌ (count_whole a) (count_whole rest)
    ∙ sym (length-append (group_numbers a) (group_numbers rest))
count_whole (alt a rest) =
    length-append (group_numbers (shown_one true a)) (group_numbers (shown_one true rest)) ∙ ap₂ ◌+◌ (count_whole a) (count_whole rest)
    ∙ sym (length-append (group_numbers a) (group_numbers rest))
count_whole none = refl

pub count_shown : (groups : Bool) (h : Re) → groups ≡ true → group_count (shown_one groups h) ≡ group_count h
count_shown groups h e = ap (λ g. group_count (shown_one g h)) e ∙ count_whole h

-- or none at all
pub count_bare : (groups : Bool) (h : Re) → groups ≡ false → group_count (shown_one groups h) ≡ 0
count_bare groups h e =
    ap (λ g. group_count (shown_one g h)) e ∙ ap group_count (bare h) ∙ ap (λ (ns : List ℕ). length ns) (group_numbers-without_groups h)

some_copies : (least : ℕ) (most : Option ℕ) → 1 ≤ copies_of least most
some_copies least None = omega arith
some_copies least (Some most) = omega arith

-- a pattern has no more groups than its weight
pub groups_light : (h : Re) → group_count h ≤ weight h
groups_light empty = omega arith
groups_light (literal bs) = omega arith
groups_light (byte_in rs) = omega arith
groups_light (char_in rs) = omega arith
groups_light (look l) = omega arith
groups_light (repeat least most greedy a) =
    let h = groups_light a in
    let k : 1 * (weight a + 2) ≤ copies_of least most * (weight a + 2) = mul-le-mul_right (weight a + 2) (some_copies least most) in
    omega (arith, h, k)
groups_light (capture n name a) = let h = groups_light a in omega (arith, h)
groups_light (cat a rest) =
    let l = length-append (group_numbers a) (group_numbers rest) in
    let h = groups_light a in let k = groups_light rest in omega (arith, l, h, k)
groups_light (alt a rest) =
    let l = length-append (group_numbers a) (group_numbers rest) in
    let h = groups_light a in let k = groups_light rest in omega (arith, l, h, k)
groups_light none = omega arith

each_small : (n count : ℕ) → n + count ≤ suc greatest_group → AreSmall (range_with_len n count)
each_small n zero h = tt
each_small n (suc count) h = (omega arith, each_small (n + 1) count (omega arith))

small_numbers : (h : Re) → IsWellFormed h → weight h ≤ 2147483646 → AreSmall (group_numbers h)
small_numbers h ok light =
    let k = groups_light h in
    subst AreSmall (sym ok.numbered) (each_small 1 (group_count h) (omega (arith, k, light)))

whole_list : (hs : List Re) → All IsWellFormed hs → sum_of_weights hs ≤ 2147483646 → map (shown_one true) hs ≡ hs
whole_list [] ok light = refl
whole_list (h ∷ hs) ok light =
    ap₂ ◌∷◌ (whole h (small_numbers h (All-head IsWellFormed h hs ok) (omega arith))) (whole_list hs (All-tail IsWellFormed h hs ok) (omega arith))

bare_list : (hs : List Re) → map (shown_one false) hs ≡ map without_groups hs
bare_list [] = refl
bare_list (h ∷ hs) = ap₂ ◌∷◌ (bare h) (bare_list hs)

-- light patterns are shown, one by one, as they are shown together
pub shown_each : (groups : Bool) (hs : List Re) → All IsWellFormed hs → list_weight hs ≤ 2147483646 → map (shown_one groups) hs ≡ shown groups hs
shown_each true hs ok light = whole_list hs ok (omega arith)
shown_each false hs ok light = bare_list hs

groups_below : (hs : List Re) → length hs + all_groups hs ≤ sum_of_weights hs
groups_below [] = omega arith
groups_below (h ∷ hs) = let k = groups_light h in let l = groups_below hs in omega (arith, k, l)

-- what light patterns take: their places, and their slots
pub takes : (groups : Bool) (hs : List Re) → All IsWellFormed hs → list_weight hs ≤ 2147483646 →
    ((choice_of_patterns 0 (2 * length hs) (map (shown_one groups) hs)).size ≤ 2147483646)
    × (2 * length hs + 2 * all_groups (map (shown_one groups) hs) ≤ 4294967292)
takes groups hs ok light =
    let ms : List Re = map (shown_one groups) hs in
    let e : ms ≡ shown groups hs = shown_each groups hs ok light in
    let l : length ms ≡ length hs = length-map hs (shown_one groups) in
    let lighter : list_weight ms ≤ list_weight hs = subst (λ (xs : List Re). list_weight xs ≤ list_weight hs) (sym e) (shown_lighter groups hs) in
    let bounded : All HasBounds ms =
    subst (All HasBounds) (sym e) (shown_all HasBounds without_groups_bounded groups hs (All-weaker IsWellFormed HasBounds (λ h x. x.bounded) hs ok)) in
    let small : length (program ms) ≤ list_weight ms = program_small ms bounded in
    let size : length (program ms) ≡ (choice_of_patterns 0 (2 * length hs) ms).size =
    length-program ms ∙ ap (λ k. (choice_of_patterns 0 (2 * k) ms).size) l in
    let slots = groups_below ms in
    (omega (arith, small, size, lighter, light), omega (arith, slots, l, lighter, light))

-- the patterns from number i on, as they are shown
pub shown_from : (groups : Bool) (xs : List Hir) (i : ℕ) (x : Hir) → i < length xs → x ≡ get_or xs i x →
    map (shown_one groups) (map meaning (drop i xs)) ≡ shown_one groups (meaning x) ∷ map (shown_one groups) (map meaning (drop (i + 1) xs))
shown_from groups xs i x h e = ap (map (shown_one groups)) (members_from xs i x h e)

-- the one part of a choice is appended, and the other is left
pub emits_either : (slots next : ℕ) (begun : Vec code.Place Global) (all : Part) (old new : Vec code.Place Global) (a b : Part) →
    Emits slots next begun all old (either a b) → vec_len new ≡ vec_len old + 1 + a.size →
    places_of new.items ≡ places_of old.items ++ choice ((vec_len old + 1) ∷ (vec_len old + 1 + a.size) ∷ []) ∷ a.places slots (vec_len old + 1) next →
    Emits slots next begun all new b
emits_either slots next begun all old new a b e long more = record {
  long = let h = e.long in omega (arith, h, long);
  more = rw (long, more, append_assoc) e.more;
}

-- one more pattern is no longer than what is left
pub pattern_fits : (groups : Bool) (xs : List Hir) (i : ℕ) (x : Hir) (p s now total : ℕ) → i < length xs → x ≡ get_or xs i x →
    now + (choice_of_patterns p s (map (shown_one groups) (map meaning (drop i xs)))).size ≡ total →
    now + (laid groups (meaning x)).size + 2 ≤ total
pattern_fits groups xs i x p s now total h e long =
    let size = ap (λ (ms : List Re). (choice_of_patterns p s ms).size) (shown_from groups xs i x h e) in
    omega (arith, size, long)

-- nor has it more groups than are left
pub groups_fit : (groups : Bool) (xs : List Hir) (i : ℕ) (x : Hir) → i < length xs → x ≡ get_or xs i x →
    all_groups (map (shown_one groups) (map meaning (drop i xs)))
    ≡ group_count (shown_one groups (meaning x)) + all_groups (map (shown_one groups) (map meaning (drop (i + 1) xs)))
groups_fit groups xs i x h e = ap all_groups (shown_from groups xs i x h e)

-- a pattern is appended, and the later ones are left
pub emits_pattern : (groups : Bool) (xs : List Hir) (i : ℕ) (x : Hir) (s t : ℕ) (begun : Vec code.Place Global) (all : Part) (old new : Vec code.Place Global) →
    i < length xs → x ≡ get_or xs i x → t ≡ s + 2 * group_count (shown_one groups (meaning x)) →
    Emits 0 0 begun all old (choice_of_patterns i s (map (shown_one groups) (map meaning (drop i xs)))) →
    vec_len new ≡ vec_len old + 1 + (pattern_part i s (shown_one groups (meaning x))).size →
    places_of new.items ≡ places_of old.items
    ++ choice ((vec_len old + 1) ∷ (vec_len old + 1 + (pattern_part i s (shown_one groups (meaning x))).size) ∷ [])
    ∷ (pattern_part i s (shown_one groups (meaning x))).places 0 (vec_len old + 1) 0 →
    Emits 0 0 begun all new (choice_of_patterns (i + 1) t (map (shown_one groups) (map meaning (drop (i + 1) xs))))
emits_pattern groups xs i x s t begun all old new h e slots held long more =
    let m : Re = shown_one groups (meaning x) in
    let ms : List Re = map (shown_one groups) (map meaning (drop (i + 1) xs)) in
    let f : Emits 0 0 begun all old (either (pattern_part i s m) (choice_of_patterns (i + 1) (s + 2 * group_count m) ms)) =
    subst (λ (ys : List Re). Emits 0 0 begun all old (choice_of_patterns i s ys)) (shown_from groups xs i x h e) held in
    subst (λ k. Emits 0 0 begun all new (choice_of_patterns (i + 1) k ms)) (sym slots)
    (emits_either 0 0 begun all old new (pattern_part i s m) (choice_of_patterns (i + 1) (s + 2 * group_count m) ms) f long more)

-- all patterns are appended, and the choice's end
pub emits_program : (groups : Bool) (xs : List Hir) (i s : ℕ) (begun old : Vec code.Place Global) (ps : List Place) →
    All IsWellFormed (map meaning xs) → list_weight (map meaning xs) ≤ 2147483646 → length xs ≤ i → begun.items ≡ [] → vec_len begun ≡ 0 →
    Emits 0 0 begun (choice_of_patterns 0 (2 * length (map meaning xs)) (map (shown_one groups) (map meaning xs))) old
    (choice_of_patterns i s (map (shown_one groups) (map meaning (drop i xs)))) →
    ps ≡ places_of old.items ++ choice [] ∷ [] → ps ≡ program (shown groups (map meaning xs))
emits_program groups xs i s begun old ps ok light past clear short held is =
    let hs : List Re = map meaning xs in
    let ms : List Re = map (shown_one groups) hs in
    let e : drop i xs ≡ [] = drop_all i xs past in
    let f : Emits 0 0 begun (choice_of_patterns 0 (2 * length hs) ms) old (choice_of_patterns i s []) =
    subst (λ (ys : List Hir). Emits 0 0 begun (choice_of_patterns 0 (2 * length hs) ms) old (choice_of_patterns i s (map (shown_one groups) (map meaning ys)))) e held in
    is ∙ f.more
    ∙ ap₂ (λ (qs : List code.Place) n. places_of qs ++ (choice_of_patterns 0 (2 * length hs) ms).places 0 n 0) clear short
    ∙ ap (λ k. (choice_of_patterns 0 (2 * k) ms).places 0 0 0) (sym (length-map hs (shown_one groups)))
    ∙ ap program (shown_each groups hs ok light)
