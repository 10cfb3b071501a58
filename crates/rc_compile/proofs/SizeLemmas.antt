-- The sizes of parts.
use Rattle.std.proofs.Common.{◌≡◌, ℕ, zero, suc, ◌+◌, ◌-◌, ◌*◌, ◌<◌, ◌≤◌, List, [], ◌∷◌, length, map, drop, Option, Some, None, Bool, sym, ap, ◌∙◌, refl, arith, max, get_or}
use Rattle.std.proofs.lemmas.List.{drop-map}
use Rattle.rc_pattern.specs.Re.{Re}
use Rattle.rc_pattern.specs.Meaning.{meaning, repetition_meaning, cat_all, alt_all}
use Rattle.rc_pattern.specs.declared.hir.Hir.{Hir}
use Rattle.rc_pattern.specs.declared.hir.Repetition.{Repetition, out-Repetition}
use Rattle.rc_pattern.proofs.FoldLemmas.{meaning_of_repetition, members_from}
use Rattle.rc_program.specs.Program.{Part, then_part, either, plus, copies, up_to, at_least, repeated, literal_part, bytes_in_order}
use Rattle.rc_compile.specs.Shown.{laid}

-- how long copies are
pub copies_size : (n : ℕ) (a b : Part) → (copies n a b).size ≡ n * a.size + b.size
copies_size zero a b = omega arith
copies_size (suc n) a b = let h = copies_size n a b in let e : suc n * a.size ≡ a.size + n * a.size = omega arith in omega (arith, h, e)

-- how long optional copies are
pub up_to_size : (greedy : Bool) (n : ℕ) (a : Part) → (up_to greedy n a).size ≡ n * (1 + a.size) + 1
up_to_size greedy zero a = omega arith
up_to_size greedy (suc n) a =
    let h = up_to_size greedy n a in let e : suc n * (1 + a.size) ≡ 1 + a.size + n * (1 + a.size) = omega arith in omega (arith, h, e)

bytes_size : (b : ℕ) (bs : List ℕ) → (bytes_in_order b bs).size ≡ suc (length bs)
bytes_size b [] = refl
bytes_size b (c ∷ bs) = let h = bytes_size c bs in omega (arith, h)

-- how long a literal is
pub literal_size : (bs : List ℕ) → (literal_part bs).size ≡ max (length bs) 1
literal_size [] = omega arith
literal_size (b ∷ bs) = let h = bytes_size b bs in omega (arith, h)

-- at least so many turns, where some are wanted
pub at_least_some : (min : ℕ) (greedy : Bool) (a : Part) → 0 < min → at_least min greedy a ≡ copies (min - 1) a (plus greedy a)
at_least_some zero greedy a h = absurd (omega arith)
at_least_some (suc n) greedy a h = let e : suc n - 1 ≡ n = omega arith in rw e refl

cat_from : (groups : Bool) (xs : List Re) (i : ℕ) → (laid groups (cat_all (drop i xs))).size ≤ (laid groups (cat_all xs)).size
cat_from groups [] zero = omega arith
cat_from groups [] (suc i) = omega arith
cat_from groups (x ∷ xs) zero = omega arith
cat_from groups (x ∷ xs) (suc i) = let h = cat_from groups xs i in omega (arith, h)

alt_from : (groups : Bool) (xs : List Re) (i : ℕ) → (laid groups (alt_all (drop i xs))).size ≤ (laid groups (alt_all xs)).size
alt_from groups [] zero = omega arith
alt_from groups [] (suc i) = omega arith
alt_from groups (x ∷ xs) zero = omega arith
alt_from groups (x ∷ xs) (suc i) = let h = alt_from groups xs i in omega (arith, h)

-- the part of a repetition without bound
pub on_part : (groups : Bool) (r : Repetition) → (out-Repetition r).max ≡ None → laid groups (repetition_meaning r)
    ≡ at_least (out-Repetition r).min (out-Repetition r).greedy (laid groups (meaning (out-Repetition r).sub.value))
on_part groups r m =
    let o = out-Repetition r in
    ap (laid groups) (meaning_of_repetition r) ∙ ap (λ (x : Option ℕ). repeated o.min x o.greedy (laid groups (meaning o.sub.value))) m

-- the part of a repetition with a bound
pub to_part : (groups : Bool) (r : Repetition) (most : ℕ) → (out-Repetition r).max ≡ Some most → laid groups (repetition_meaning r)
    ≡ copies (out-Repetition r).min (laid groups (meaning (out-Repetition r).sub.value))
    (up_to (out-Repetition r).greedy (most - (out-Repetition r).min) (laid groups (meaning (out-Repetition r).sub.value)))
to_part groups r most m =
    let o = out-Repetition r in
    ap (laid groups) (meaning_of_repetition r) ∙ ap (λ (x : Option ℕ). repeated o.min x o.greedy (laid groups (meaning o.sub.value))) m

-- how long a repetition without bound is, where some turns are wanted
pub on_size : (groups : Bool) (r : Repetition) (sub : Hir) (b : ℕ) → (out-Repetition r).max ≡ None → ((out-Repetition r).min ≡ 0 → ⊥) →
    sub ≡ (out-Repetition r).sub.value → b ≡ (laid groups (meaning sub)).size →
    ((out-Repetition r).min - 1) * b + (b + 1) ≡ (laid groups (repetition_meaning r)).size
on_size groups r sub b m z s e =
    let o = out-Repetition r in
    let a : Part = laid groups (meaning o.sub.value) in
    let f : b ≡ a.size = e ∙ ap (λ (h : Hir). (laid groups (meaning h)).size) s in
    let pos : 0 < o.min = omega (arith, z) in
    let g : laid groups (repetition_meaning r) ≡ copies (o.min - 1) a (plus o.greedy a) =
    on_part groups r m ∙ at_least_some o.min o.greedy a pos in
    rw f (sym (ap (λ (q : Part). q.size) g ∙ copies_size (o.min - 1) a (plus o.greedy a)))

-- how long a repetition with a bound is
pub to_size : (groups : Bool) (r : Repetition) (sub : Hir) (b most : ℕ) → (out-Repetition r).max ≡ Some most →
    sub ≡ (out-Repetition r).sub.value → b ≡ (laid groups (meaning sub)).size →
    (out-Repetition r).min * b + ((most - (out-Repetition r).min) * (1 + b) + 1) ≡ (laid groups (repetition_meaning r)).size
to_size groups r sub b most m s e =
    let o = out-Repetition r in
    let a : Part = laid groups (meaning o.sub.value) in
    let f : b ≡ a.size = e ∙ ap (λ (h : Hir). (laid groups (meaning h)).size) s in
    rw f (sym (ap (λ (q : Part). q.size) (to_part groups r most m) ∙ copies_size o.min a (up_to o.greedy (most - o.min) a)
    ∙ ap (λ n. o.min * a.size + n) (up_to_size o.greedy (most - o.min) a)))

-- a body's part is not longer than the part of its repetition without bound
pub on_body : (groups : Bool) (r : Repetition) (sub : Hir) → (out-Repetition r).max ≡ None → sub ≡ (out-Repetition r).sub.value →
    (laid groups (meaning sub)).size ≤ (laid groups (repetition_meaning r)).size
on_body groups r sub m s =
    let o = out-Repetition r in
    let a : Part = laid groups (meaning o.sub.value) in
    let f : (laid groups (meaning sub)).size ≡ a.size = ap (λ (h : Hir). (laid groups (meaning h)).size) s in
    let size : (laid groups (repetition_meaning r)).size ≡ (at_least o.min o.greedy a).size = ap (λ (q : Part). q.size) (on_part groups r m) in
    let k = held o.min o.greedy a in
    omega (arith, f, size, k)
  where
    held : (n : ℕ) (greedy : Bool) (a : Part) → a.size ≤ (at_least n greedy a).size
    held zero greedy a = omega arith
    held (suc n) greedy a = let h = copies_size n a (plus greedy a) in omega (arith, h)

one_of_two : (n k b total : ℕ) → 0 < max n (k + n) → n * b + (k * (1 + b) + 1) ≡ total → b ≤ total
one_of_two zero zero b total h e = absurd (omega arith)
one_of_two zero (suc k) b total h e = let f : suc k * (1 + b) ≡ 1 + b + k * (1 + b) = omega arith in omega (arith, e, f)
one_of_two (suc n) k b total h e = let f : suc n * b ≡ b + n * b = omega arith in omega (arith, e, f)

-- nor than that of its repetition with a bound that isn't 0
pub to_body : (groups : Bool) (r : Repetition) (sub : Hir) (most : ℕ) → (out-Repetition r).max ≡ Some most →
    (max (out-Repetition r).min most ≡ 0 → ⊥) → sub ≡ (out-Repetition r).sub.value →
    (laid groups (meaning sub)).size ≤ (laid groups (repetition_meaning r)).size
to_body groups r sub most m z s =
    let h = to_size groups r sub (laid groups (meaning sub)).size most m s refl in
    one_of_two (out-Repetition r).min (most - (out-Repetition r).min) (laid groups (meaning sub)).size _ (omega (arith, z)) h

-- the members from number i on
pub cat_next : (groups : Bool) (xs : List Hir) (i : ℕ) (x : Hir) → i < length xs → x ≡ get_or xs i x →
    laid groups (cat_all (map meaning (drop i xs))) ≡ then_part (laid groups (meaning x)) (laid groups (cat_all (map meaning (drop (i + 1) xs))))
cat_next groups xs i x h e = ap (λ ys. laid groups (cat_all ys)) (members_from xs i x h e)

pub alt_next : (groups : Bool) (xs : List Hir) (i : ℕ) (x : Hir) → i < length xs → x ≡ get_or xs i x →
    laid groups (alt_all (map meaning (drop i xs))) ≡ either (laid groups (meaning x)) (laid groups (alt_all (map meaning (drop (i + 1) xs))))
alt_next groups xs i x h e = ap (λ ys. laid groups (alt_all ys)) (members_from xs i x h e)

cat_left : (groups : Bool) (xs : List Hir) (i : ℕ) → (laid groups (cat_all (map meaning (drop i xs)))).size ≤ (laid groups (cat_all (map meaning xs))).size
cat_left groups xs i = rw (← drop-map meaning i xs) (cat_from groups (map meaning xs) i)

alt_left : (groups : Bool) (xs : List Hir) (i : ℕ) → (laid groups (alt_all (map meaning (drop i xs)))).size ≤ (laid groups (alt_all (map meaning xs))).size
alt_left groups xs i = rw (← drop-map meaning i xs) (alt_from groups (map meaning xs) i)

-- a member's part is not longer than the whole
pub cat_member : (groups : Bool) (xs : List Hir) (i : ℕ) (x : Hir) → i < length xs → x ≡ get_or xs i x →
    (laid groups (meaning x)).size + (laid groups (cat_all (map meaning (drop (i + 1) xs)))).size ≤ (laid groups (cat_all (map meaning xs))).size
cat_member groups xs i x h e =
    let l = cat_left groups xs i in let n = ap (λ (q : Part). q.size) (cat_next groups xs i x h e) in omega (arith, l, n)

pub alt_member : (groups : Bool) (xs : List Hir) (i : ℕ) (x : Hir) → i < length xs → x ≡ get_or xs i x →
    1 + ((laid groups (meaning x)).size + (laid groups (alt_all (map meaning (drop (i + 1) xs)))).size)
    ≤ (laid groups (alt_all (map meaning xs))).size
alt_member groups xs i x h e =
    let l = alt_left groups xs i in let n = ap (λ (q : Part). q.size) (alt_next groups xs i x h e) in omega (arith, l, n)
