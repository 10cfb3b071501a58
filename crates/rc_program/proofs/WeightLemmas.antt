-- A program is no heavier than the weight of its patterns.
use Rattle.std.proofs.Common.{◌≡◌, ℕ, zero, suc, ◌+◌, ◌-◌, ◌*◌, ◌≤◌, List, [], ◌∷◌, ◌++◌, length, max, subst, arith, Bool, Some, None}
use Rattle.std.specs.Prelude.{All}
use Rattle.std.proofs.lemmas.List.Elements.{All-head, All-tail}
use Rattle.std.proofs.Math.Nat.{mul-le-mul_right}
use Rattle.rc_pattern.specs.Re.{Re, empty, literal, byte_in, char_in, look, repeat, capture, cat, alt, none}
use Rattle.rc_pattern.specs.WellFormed.{HasBounds, group_count}
use Rattle.rc_pattern.specs.Weight.{weight, sum_of_weights, list_weight}
use Rattle.rc_program.specs.Program.{Place, choice, byte, branch, scalar, guard, slot, accept, Part, one, then_part, either, optional, plus, body_or_out, copies, up_to, at_least, bytes_in_order, part, pattern_part, choice_of_patterns, program}
use Rattle.rc_program.specs.Laws.{place_weight, heaviness}

heaviness-append : (xs ys : List Place) → heaviness (xs ++ ys) ≡ heaviness xs + heaviness ys
heaviness-append [] ys = omega arith
heaviness-append (x ∷ xs) ys = let h = heaviness-append xs ys in omega (arith, h)

place_weight_some : (q : Place) → 1 ≤ place_weight q
place_weight_some (choice ns) = omega arith
place_weight_some (byte rs n) = omega arith
place_weight_some (branch ts) = omega arith
place_weight_some (scalar rs n) = omega arith
place_weight_some (guard l n) = omega arith
place_weight_some (slot k n) = omega arith
place_weight_some (accept p) = omega arith

-- there are no more places than their heaviness
pub length-le-heaviness : (xs : List Place) → length xs ≤ heaviness xs
length-le-heaviness [] = omega arith
length-le-heaviness (x ∷ xs) = let h = length-le-heaviness xs in let k = place_weight_some x in omega (arith, h, k)

-- the part's places weigh no more than w
abbrev Weighs : Part → ℕ → Type 0
Weighs a w = (s start next : ℕ) → heaviness (a.places s start next) ≤ w

then_weighs : (a b : Part) (v w : ℕ) → Weighs a v → Weighs b w → Weighs (then_part a b) (v + w)
then_weighs a b v w x y s start next =
    let l = heaviness-append (a.places s start (start + a.size)) (b.places s (start + a.size) next) in
    let h = x s start (start + a.size) in let k = y s (start + a.size) next in omega (arith, l, h, k)

either_weighs : (a b : Part) (v w : ℕ) → Weighs a v → Weighs b w → Weighs (either a b) (1 + v + w)
either_weighs a b v w x y s start next =
    let l = heaviness-append (a.places s (start + 1) next) (b.places s (start + 1 + a.size) next) in
    let h = x s (start + 1) next in let k = y s (start + 1 + a.size) next in omega (arith, l, h, k)

optional_weighs : (greedy : Bool) (a : Part) (w : ℕ) → Weighs a w → Weighs (optional greedy a) (1 + w)
optional_weighs greedy a w x s start next = let h = x s (start + 1) next in omega (arith, h)

plus_weighs : (greedy : Bool) (a : Part) (w : ℕ) → Weighs a w → Weighs (plus greedy a) (w + 1)
plus_weighs greedy a w x s start next =
    let l = heaviness-append (a.places s start (start + a.size)) (body_or_out greedy start next ∷ []) in
    let h = x s start (start + a.size) in omega (arith, l, h)

wider : (a : Part) (v w : ℕ) → v ≤ w → Weighs a v → Weighs a w
wider a v w le x s start next = let h = x s start next in omega (arith, h, le)

copies_weighs : (n : ℕ) (a b : Part) (v w : ℕ) → Weighs a v → Weighs b w → Weighs (copies n a b) (n * v + w)
copies_weighs zero a b v w x y = wider b w (0 * v + w) (omega arith) y
copies_weighs (suc n) a b v w x y =
    wider (copies (suc n) a b) (v + (n * v + w)) (suc n * v + w) (let e : suc n * v ≡ v + n * v = omega arith in omega (arith, e))
    (then_weighs a (copies n a b) v (n * v + w) x (copies_weighs n a b v w x y))

up_to_weighs : (greedy : Bool) (n : ℕ) (a : Part) (w : ℕ) → Weighs a w → Weighs (up_to greedy n a) (n * (1 + w) + 1)
up_to_weighs greedy zero a w x = λ s start next. omega arith
up_to_weighs greedy (suc n) a w x =
    wider (up_to greedy (suc n) a) (1 + (w + (n * (1 + w) + 1))) (suc n * (1 + w) + 1)
    (let e : suc n * (1 + w) ≡ 1 + w + n * (1 + w) = omega arith in omega (arith, e))
    (optional_weighs greedy (then_part a (up_to greedy n a)) (w + (n * (1 + w) + 1))
    (then_weighs a (up_to greedy n a) w (n * (1 + w) + 1) x (up_to_weighs greedy n a w x)))

at_least_weighs : (min : ℕ) (greedy : Bool) (a : Part) (w : ℕ) → Weighs a w → Weighs (at_least min greedy a) ((min + 1) * (w + 2) + 2)
at_least_weighs zero greedy a w x =
    wider (at_least 0 greedy a) (1 + (w + 1)) ((0 + 1) * (w + 2) + 2) (let e : (0 + 1) * (w + 2) ≡ w + 2 = omega arith in omega (arith, e))
    (optional_weighs greedy (plus greedy a) (w + 1) (plus_weighs greedy a w x))
at_least_weighs (suc n) greedy a w x =
    wider (at_least (suc n) greedy a) (n * w + (w + 1)) ((suc n + 1) * (w + 2) + 2)
    (let e : (suc n + 1) * (w + 2) ≡ n * w + 2 * w + 2 * n + 4 = omega arith in omega (arith, e))
    (copies_weighs n a (plus greedy a) w (w + 1) x (plus_weighs greedy a w x))

bounded_sum : (min k w : ℕ) → min * w + (k * (1 + w) + 1) ≤ (min + k) * (w + 2) + 2
bounded_sum min k w = omega arith

between_bound : (min most w : ℕ) → min ≤ most → min * w + ((most - min) * (1 + w) + 1) ≤ max 1 most * (w + 2) + 2
between_bound min most w le =
    let a = bounded_sum min (most - min) w in
    let e : min + (most - min) ≡ most = omega (arith, le) in
    let b : min * w + ((most - min) * (1 + w) + 1) ≤ most * (w + 2) + 2 = subst (λ z. min * w + ((most - min) * (1 + w) + 1) ≤ z * (w + 2) + 2) e a in
    let c : most * (w + 2) ≤ max 1 most * (w + 2) = mul-le-mul_right (w + 2) (omega arith) in
    omega (arith, b, c)

between_weighs : (min most : ℕ) (greedy : Bool) (a : Part) (w : ℕ) → min ≤ most → Weighs a w →
    Weighs (copies min a (up_to greedy (most - min) a)) (max 1 most * (w + 2) + 2)
between_weighs min most greedy a w le x =
    wider (copies min a (up_to greedy (most - min) a)) (min * w + ((most - min) * (1 + w) + 1)) (max 1 most * (w + 2) + 2)
    (between_bound min most w le)
    (copies_weighs min a (up_to greedy (most - min) a) w ((most - min) * (1 + w) + 1) x (up_to_weighs greedy (most - min) a w x))

bytes_weigh : (b : ℕ) (bs : List ℕ) → Weighs (bytes_in_order b bs) (suc (length bs))
bytes_weigh b [] = λ s start next. omega arith
bytes_weigh b (c ∷ bs) =
    wider (bytes_in_order b (c ∷ bs)) (1 + suc (length bs)) (suc (suc (length bs))) (omega arith)
    (then_weighs (one (λ s. byte ((b, b) ∷ []))) (bytes_in_order c bs) 1 (suc (length bs)) (λ s start next. omega arith) (bytes_weigh c bs))

-- a part weighs no more than its pattern
pub part_weighs : (h : Re) → HasBounds h → (s start next : ℕ) → heaviness ((part h).places s start next) ≤ weight h
part_weighs empty ok = λ s start next. omega arith
part_weighs (literal []) ok = λ s start next. omega arith
part_weighs (literal (b ∷ bs)) ok =
    wider (bytes_in_order b bs) (suc (length bs)) (max 1 (suc (length bs))) (omega arith) (bytes_weigh b bs)
part_weighs (byte_in rs) ok = λ s start next. omega arith
part_weighs (char_in rs) ok = λ s start next. omega arith
part_weighs (look l) ok = λ s start next. omega arith
part_weighs (repeat min None greedy a) ok = at_least_weighs min greedy (part a) (weight a) (part_weighs a ok)
part_weighs (repeat min (Some most) greedy a) ok = between_weighs min most greedy (part a) (weight a) ok.0 (part_weighs a ok.1)
part_weighs (capture n name a) ok =
    wider (part (capture n name a)) (1 + (weight a + 1)) (2 + weight a) (omega arith)
    (then_weighs (one (λ s. slot (s + 2 * (n - 1)))) (then_part (part a) (one (λ s. slot (s + 2 * (n - 1) + 1)))) 1 (weight a + 1)
    (λ s start next. omega arith)
    (then_weighs (part a) (one (λ s. slot (s + 2 * (n - 1) + 1))) (weight a) 1 (part_weighs a ok) (λ s start next. omega arith)))
part_weighs (cat a rest) ok =
    then_weighs (part a) (part rest) (weight a) (weight rest) (part_weighs a ok.0) (part_weighs rest ok.1)
part_weighs (alt a rest) ok =
    either_weighs (part a) (part rest) (weight a) (weight rest) (part_weighs a ok.0) (part_weighs rest ok.1)
part_weighs none ok = λ s start next. omega arith

pattern_weighs : (p s : ℕ) (h : Re) → HasBounds h → Weighs (pattern_part p s h) (weight h + 1)
pattern_weighs p s h ok slots start next =
    let l = heaviness-append ((part h).places s start (start + (part h).size)) (accept p ∷ []) in
    let k = part_weighs h ok s start (start + (part h).size) in omega (arith, l, k)

choice_weighs : (p s : ℕ) (hs : List Re) → All HasBounds hs → Weighs (choice_of_patterns p s hs) (1 + sum_of_weights hs)
choice_weighs p s [] ok = λ slots start next. omega arith
choice_weighs p s (h ∷ hs) ok =
    wider (choice_of_patterns p s (h ∷ hs)) (1 + (weight h + 1) + (1 + sum_of_weights hs)) (1 + (weight h + 3 + sum_of_weights hs)) (omega arith)
    (either_weighs (pattern_part p s h) (choice_of_patterns (p + 1) (s + 2 * group_count h) hs) (weight h + 1) (1 + sum_of_weights hs)
    (pattern_weighs p s h (All-head HasBounds h hs ok))
    (choice_weighs (p + 1) (s + 2 * group_count h) hs (All-tail HasBounds h hs ok)))

-- a program weighs no more than its patterns
pub program_weighs : (hs : List Re) → All HasBounds hs → heaviness (program hs) ≤ list_weight hs
program_weighs hs ok = let h = choice_weighs 0 (2 * length hs) hs ok 0 0 0 in omega (arith, h)

-- a program has no more places than the weight of its patterns
pub program_small : (hs : List Re) → All HasBounds hs → length (program hs) ≤ list_weight hs
program_small hs ok = let h = program_weighs hs ok in let k = length-le-heaviness (program hs) in omega (arith, h, k)
