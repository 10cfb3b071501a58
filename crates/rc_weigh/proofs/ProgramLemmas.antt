-- A program takes no more than the weight of its patterns by what is laid out.
use Rattle.std.proofs.Common.{◌≡◌, ℕ, zero, suc, ◌+◌, ◌-◌, ◌*◌, ◌≤◌, List, [], ◌∷◌, ◌++◌, length, map, max, subst, arith, Bool, true, false, Some, None}
use Rattle.std.specs.Prelude.{All}
use Rattle.std.proofs.lemmas.List.Elements.{All-head, All-tail}
use Rattle.std.proofs.Math.Nat.{mul-le-mul_left, mul-le-mul_right}
use Rattle.rc_pattern.specs.Re.{Re, empty, literal, byte_in, char_in, look, repeat, capture, cat, alt, none}
use Rattle.rc_pattern.specs.Weight.{copies_of}
use Rattle.rc_pattern.specs.WellFormed.{HasBounds, group_count}
use Rattle.rc_program.specs.Program.{Place, byte, slot, accept, Part, one, then_part, either, optional, plus, body_or_out, copies, up_to, at_least, bytes_in_order, part, pattern_part, choice_of_patterns, program, without_groups, shown}
use Rattle.rc_utf8.specs.Bytes.{bytes_of}
use Rattle.rc_weigh.specs.Weight.{laid_out, laid_weight, sum_of_laid, laid_list_weight}
use Rattle.rc_weigh.specs.Laws.{range_count}
use Rattle.rc_weigh.proofs.LaidLemmas.{all_laid, length-le-laid_out, program_taken}

all_laid-append : (xs ys : List Place) → all_laid (xs ++ ys) ≡ all_laid xs + all_laid ys
all_laid-append [] ys = omega arith
all_laid-append (x ∷ xs) ys = let h = all_laid-append xs ys in omega (arith, h)

-- the part's places weigh no more than w
abbrev Weighs : Part → ℕ → Type 0
Weighs a w = (s start next : ℕ) → all_laid (a.places s start next) ≤ w

then_weighs : (a b : Part) (v w : ℕ) → Weighs a v → Weighs b w → Weighs (then_part a b) (v + w)
then_weighs a b v w x y s start next =
    let l = all_laid-append (a.places s start (start + a.size)) (b.places s (start + a.size) next) in
    let h = x s start (start + a.size) in let k = y s (start + a.size) next in omega (arith, l, h, k)

either_weighs : (a b : Part) (v w : ℕ) → Weighs a v → Weighs b w → Weighs (either a b) (1 + v + w)
either_weighs a b v w x y s start next =
    let l = all_laid-append (a.places s (start + 1) next) (b.places s (start + 1 + a.size) next) in
    let h = x s (start + 1) next in let k = y s (start + 1 + a.size) next in omega (arith, l, h, k)

optional_weighs : (greedy : Bool) (a : Part) (w : ℕ) → Weighs a w → Weighs (optional greedy a) (1 + w)
optional_weighs greedy a w x s start next = let h = x s (start + 1) next in omega (arith, h)

plus_weighs : (greedy : Bool) (a : Part) (w : ℕ) → Weighs a w → Weighs (plus greedy a) (w + 1)
plus_weighs greedy a w x s start next =
    let l = all_laid-append (a.places s start (start + a.size)) (body_or_out greedy start next ∷ []) in
    let h = x s start (start + a.size) in omega (arith, l, h)

wider : (a : Part) (v w : ℕ) → v ≤ w → Weighs a v → Weighs a w
wider a v w le x s start next = let h = x s start next in omega (arith, h, le)

copies_weighs : (n : ℕ) (a b : Part) (v w : ℕ) → Weighs a v → Weighs b w → Weighs (copies n a b) (n * v + w)
copies_weighs zero a b v w x y = wider b w (0 * v + w) (omega arith) y
copies_weighs (suc n) a b v w x y =
    wider (copies (suc n) a b) (v + (n * v + w)) (suc n * v + w) (let e : suc n * v ≡ v + n * v = omega arith in omega (arith, e))
    (then_weighs a (copies n a b) v (n * v + w) x (copies_weighs n a b v w x y))

up_to_weighs : (greedy : Bool) (n : ℕ) (a : Part) (w : ℕ) → Weighs a w → Weighs (up_to greedy n a) (n * (1 + w) + 1)
up_to_weighs greedy zero a w x = λ s start next. omega arith
up_to_weighs greedy (suc n) a w x =
    wider (up_to greedy (suc n) a) (1 + (w + (n * (1 + w) + 1))) (suc n * (1 + w) + 1)
    (let e : suc n * (1 + w) ≡ 1 + w + n * (1 + w) = omega arith in omega (arith, e))
    (optional_weighs greedy (then_part a (up_to greedy n a)) (w + (n * (1 + w) + 1))
    (then_weighs a (up_to greedy n a) w (n * (1 + w) + 1) x (up_to_weighs greedy n a w x)))

at_least_weighs : (min : ℕ) (greedy : Bool) (a : Part) (w : ℕ) → Weighs a w → Weighs (at_least min greedy a) ((min + 1) * (w + 2) + 2)
at_least_weighs zero greedy a w x =
    wider (at_least 0 greedy a) (1 + (w + 1)) ((0 + 1) * (w + 2) + 2) (let e : (0 + 1) * (w + 2) ≡ w + 2 = omega arith in omega (arith, e))
    (optional_weighs greedy (plus greedy a) (w + 1) (plus_weighs greedy a w x))
at_least_weighs (suc n) greedy a w x =
    wider (at_least (suc n) greedy a) (n * w + (w + 1)) ((suc n + 1) * (w + 2) + 2)
    (let e : (suc n + 1) * (w + 2) ≡ n * w + 2 * w + 2 * n + 4 = omega arith in omega (arith, e))
    (copies_weighs n a (plus greedy a) w (w + 1) x (plus_weighs greedy a w x))

bounded_sum : (min k w : ℕ) → min * w + (k * (1 + w) + 1) ≤ (min + k) * (w + 2) + 2
bounded_sum min k w = omega arith

between_bound : (min most w : ℕ) → min ≤ most → min * w + ((most - min) * (1 + w) + 1) ≤ max 1 most * (w + 2) + 2
between_bound min most w le =
    let a = bounded_sum min (most - min) w in
    let e : min + (most - min) ≡ most = omega (arith, le) in
    let b : min * w + ((most - min) * (1 + w) + 1) ≤ most * (w + 2) + 2 = subst (λ z. min * w + ((most - min) * (1 + w) + 1) ≤ z * (w + 2) + 2) e a in
    let c : most * (w + 2) ≤ max 1 most * (w + 2) = mul-le-mul_right (w + 2) (omega arith) in
    omega (arith, b, c)

between_weighs : (min most : ℕ) (greedy : Bool) (a : Part) (w : ℕ) → min ≤ most → Weighs a w →
    Weighs (copies min a (up_to greedy (most - min) a)) (max 1 most * (w + 2) + 2)
between_weighs min most greedy a w le x =
    wider (copies min a (up_to greedy (most - min) a)) (min * w + ((most - min) * (1 + w) + 1)) (max 1 most * (w + 2) + 2)
    (between_bound min most w le)
    (copies_weighs min a (up_to greedy (most - min) a) w ((most - min) * (1 + w) + 1) x (up_to_weighs greedy (most - min) a w x))

bytes_weigh : (b : ℕ) (bs : List ℕ) → Weighs (bytes_in_order b bs) (suc (length bs))
bytes_weigh b [] = λ s start next. omega arith
bytes_weigh b (c ∷ bs) =
    wider (bytes_in_order b (c ∷ bs)) (1 + suc (length bs)) (suc (suc (length bs))) (omega arith)
    (then_weighs (one (λ s. byte ((b, b) ∷ []))) (bytes_in_order c bs) 1 (suc (length bs)) (λ s start next. omega arith) (bytes_weigh c bs))

-- a part weighs no more than its pattern
pub part_weighs : (h : Re) → HasBounds h → (s start next : ℕ) → all_laid ((part h).places s start next) ≤ laid_weight h
part_weighs empty ok = λ s start next. omega arith
part_weighs (literal []) ok = λ s start next. omega arith
part_weighs (literal (b ∷ bs)) ok =
    wider (bytes_in_order b bs) (suc (length bs)) (max 1 (suc (length bs))) (omega arith) (bytes_weigh b bs)
part_weighs (byte_in rs) ok = λ s start next. omega arith
part_weighs (char_in rs) ok = λ s start next. omega arith
part_weighs (look l) ok = λ s start next. omega arith
part_weighs (repeat min None greedy a) ok = at_least_weighs min greedy (part a) (laid_weight a) (part_weighs a ok)
part_weighs (repeat min (Some most) greedy a) ok = between_weighs min most greedy (part a) (laid_weight a) ok.0 (part_weighs a ok.1)
part_weighs (capture n name a) ok =
    wider (part (capture n name a)) (1 + (laid_weight a + 1)) (2 + laid_weight a) (omega arith)
    (then_weighs (one (λ s. slot (s + 2 * (n - 1)))) (then_part (part a) (one (λ s. slot (s + 2 * (n - 1) + 1)))) 1 (laid_weight a + 1)
    (λ s start next. omega arith)
    (then_weighs (part a) (one (λ s. slot (s + 2 * (n - 1) + 1))) (laid_weight a) 1 (part_weighs a ok) (λ s start next. omega arith)))
part_weighs (cat a rest) ok =
    then_weighs (part a) (part rest) (laid_weight a) (laid_weight rest) (part_weighs a ok.0) (part_weighs rest ok.1)
part_weighs (alt a rest) ok =
    either_weighs (part a) (part rest) (laid_weight a) (laid_weight rest) (part_weighs a ok.0) (part_weighs rest ok.1)
part_weighs none ok = λ s start next. omega arith

pattern_weighs : (p s : ℕ) (h : Re) → HasBounds h → Weighs (pattern_part p s h) (laid_weight h + 1)
pattern_weighs p s h ok slots start next =
    let l = all_laid-append ((part h).places s start (start + (part h).size)) (accept p ∷ []) in
    let k = part_weighs h ok s start (start + (part h).size) in omega (arith, l, k)

choice_weighs : (p s : ℕ) (hs : List Re) → All HasBounds hs → Weighs (choice_of_patterns p s hs) (1 + sum_of_laid hs)
choice_weighs p s [] ok = λ slots start next. omega arith
choice_weighs p s (h ∷ hs) ok =
    wider (choice_of_patterns p s (h ∷ hs)) (1 + (laid_weight h + 1) + (1 + sum_of_laid hs)) (1 + (laid_weight h + 3 + sum_of_laid hs)) (omega arith)
    (either_weighs (pattern_part p s h) (choice_of_patterns (p + 1) (s + 2 * group_count h) hs) (laid_weight h + 1) (1 + sum_of_laid hs)
    (pattern_weighs p s h (All-head HasBounds h hs ok))
    (choice_weighs (p + 1) (s + 2 * group_count h) hs (All-tail HasBounds h hs ok)))

-- a program weighs no more than its patterns
pub program_weighs : (hs : List Re) → All HasBounds hs → all_laid (program hs) ≤ laid_list_weight hs
program_weighs hs ok = let h = choice_weighs 0 (2 * length hs) hs ok 0 0 0 in omega (arith, h)

-- so the byte program takes no more than that, with the ranges
pub program_bounds : (hs : List Re) → All HasBounds hs → laid_out (bytes_of (program hs)) + range_count (program hs) ≤ laid_list_weight hs
program_bounds hs ok = let e = program_taken (program hs) in let h = program_weighs hs ok in omega (arith, e, h)

pub program_small : (hs : List Re) → All HasBounds hs → length (bytes_of (program hs)) ≤ laid_list_weight hs
program_small hs ok =
    let h = program_bounds hs ok in let k = length-le-laid_out (bytes_of (program hs)) in omega (arith, h, k)

without_groups_lighter : (h : Re) → laid_weight (without_groups h) ≤ laid_weight h
without_groups_lighter empty = omega arith
without_groups_lighter (literal bs) = omega arith
without_groups_lighter (byte_in rs) = omega arith
without_groups_lighter (char_in rs) = omega arith
without_groups_lighter (look l) = omega arith
without_groups_lighter (repeat min max greedy a) =
    let h = without_groups_lighter a in
    let k : copies_of min max * (laid_weight (without_groups a) + 2) ≤ copies_of min max * (laid_weight a + 2) =
    mul-le-mul_left (copies_of min max) (omega (arith, h)) in omega (arith, k)
without_groups_lighter (capture n name a) = let h = without_groups_lighter a in omega (arith, h)
without_groups_lighter (cat a rest) = let h = without_groups_lighter a in let k = without_groups_lighter rest in omega (arith, h, k)
without_groups_lighter (alt a rest) = let h = without_groups_lighter a in let k = without_groups_lighter rest in omega (arith, h, k)
without_groups_lighter none = omega arith

list_lighter : (hs : List Re) → sum_of_laid (map without_groups hs) ≤ sum_of_laid hs
list_lighter [] = omega arith
list_lighter (h ∷ hs) = let k = without_groups_lighter h in let l = list_lighter hs in omega (arith, k, l)

-- patterns are no heavier without their groups
pub shown_lighter : (groups : Bool) (hs : List Re) → laid_list_weight (shown groups hs) ≤ laid_list_weight hs
shown_lighter true hs = omega arith
shown_lighter false hs = let h = list_lighter hs in omega (arith, h)
