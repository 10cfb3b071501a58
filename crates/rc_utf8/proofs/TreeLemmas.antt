-- Which bytes sequences and their tree take.
use Rattle.std.proofs.Common.{◌≡◌, ℕ, suc, ◌+◌, ◌-◌, ◌<◌, ◌≤◌, ◌⊎◌, List, [], ◌∷◌, ◌++◌, length, inl, inr, ⊎_elim, sym, subst, ap, ap₂, ◌∙◌, refl, arith, Bool, true, false, true≢false, ◌&&◌, ◌||◌, nat_le, nat_lt, nat_eq, if◌then◌else◌}
use Rattle.std.specs.List.{AllByRecursion}
use Rattle.std.proofs.lemmas.Bool.{cases_Bool, cases_eq, cases_order, and_parts, and_from, or_left, or_right, leb-true, le-leb, eq-eqb, ne_eqb, eqb-true, ltb-true, false_from_ne_true}
use Rattle.rc_pattern.specs.Re.{Range}
use Rattle.rc_utf8.specs.Bytes.{Sequence, if_some, behind, all_are, from_bytes, to_bytes, over_one, over_both, within_bytes, Tree, none, ends, goes, put, tree_of}
use Rattle.rc_utf8.proofs.TakeLemmas.{inside, inside_parts, inside_from, any_parts, takes_any, takes_from, takes_to, takes_within}

-- the sequence takes the bytes
abbrev pub takes_one : List Range → ℕ → List ℕ → Bool
takes_one [] n ds = takes_any n ds
takes_one (r ∷ rs) n [] = false
takes_one (r ∷ rs) n (d ∷ ds) = inside r.0 r.1 d && takes_one rs n ds

-- one of the sequences does
abbrev pub takes_some : List Sequence → List ℕ → Bool
takes_some [] bs = false
takes_some (s ∷ ss) bs = takes_one s.0 s.1 bs || takes_some ss bs

-- the tree takes the bytes
abbrev pub takes : Tree → List ℕ → Bool
takes tree [] = false
takes none (d ∷ ds) = false
takes (ends a b n others) (d ∷ ds) = (inside a b d && takes_any n ds) || takes others (d ∷ ds)
takes (goes a b below others) (d ∷ ds) = (inside a b d && takes below ds) || takes others (d ∷ ds)

-- the sequence has a first range
abbrev pub IsLed : Sequence → Type 0
IsLed ([], n) = ⊥
IsLed ((r ∷ rs), n) = Unit {0}

alg_or : (x y z : Bool) → (x || (y || z)) ≡ ((x || y) || z)
alg_or true y z = refl
alg_or false y z = refl

alg_end : (x : Bool) → x ≡ (x || false)
alg_end true = refl
alg_end false = refl

alg_join : (i x y o : Bool) → ((i && (x || y)) || o) ≡ ((i && x) || ((i && y) || o))
alg_join true x y o = sym (alg_or x y o)
alg_join false x y o = refl

-- what a tree takes with one more sequence
put_takes : (r : Range) (rs : List Range) (n : ℕ) (tree : Tree) (bs : List ℕ) → takes (put (r ∷ rs) n tree) bs ≡ (takes_one (r ∷ rs) n bs || takes tree bs)
put_takes r [] n tree [] = refl
put_takes r [] n tree (d ∷ ds) = refl
put_takes r (q ∷ qs) n none [] = refl
put_takes r (q ∷ qs) n (ends a b m others) [] = refl
put_takes r (q ∷ qs) n (goes a b below others) [] = refl
put_takes r (q ∷ qs) n none (d ∷ ds) =
    ap (λ x. (inside r.0 r.1 d && x) || false) (put_takes q qs n none ds ∙ none_below (takes_one (q ∷ qs) n ds) ds)
  where
    none_below : (x : Bool) (ds : List ℕ) → (x || takes none ds) ≡ x
    none_below x [] = sym (alg_end x)
    none_below x (d ∷ ds) = sym (alg_end x)
put_takes r (q ∷ qs) n (ends a b m others) (d ∷ ds) =
    ap (λ x. (inside r.0 r.1 d && x) || takes (ends a b m others) (d ∷ ds)) (put_takes q qs n none ds ∙ none_below (takes_one (q ∷ qs) n ds) ds)
  where
    none_below : (x : Bool) (ds : List ℕ) → (x || takes none ds) ≡ x
    none_below x [] = sym (alg_end x)
    none_below x (d ∷ ds) = sym (alg_end x)
put_takes r (q ∷ qs) n (goes a b below others) (d ∷ ds) =
    by_case (put_takes q qs n below ds) (put_takes q qs n none ds ∙ none_below (takes_one (q ∷ qs) n ds) ds) (cases_Bool (nat_eq r.0 a && nat_eq r.1 b))
  where
    none_below : (x : Bool) (ds : List ℕ) → (x || takes none ds) ≡ x
    none_below x [] = sym (alg_end x)
    none_below x (d ∷ ds) = sym (alg_end x)

    by_case : takes (put (q ∷ qs) n below) ds ≡ (takes_one (q ∷ qs) n ds || takes below ds) → takes (put (q ∷ qs) n none) ds ≡ takes_one (q ∷ qs) n ds →
        ((nat_eq r.0 a && nat_eq r.1 b) ≡ true) ⊎ ((nat_eq r.0 a && nat_eq r.1 b) ≡ false) →
        takes (if nat_eq r.0 a && nat_eq r.1 b then goes a b (put (q ∷ qs) n below) others else goes r.0 r.1 (put (q ∷ qs) n none) (goes a b below others)) (d ∷ ds)
        ≡ ((inside r.0 r.1 d && takes_one (q ∷ qs) n ds) || ((inside a b d && takes below ds) || takes others (d ∷ ds)))
    by_case h k (inl t) =
        let p = and_parts (nat_eq r.0 a) (nat_eq r.1 b) t in
        rw t (ap (λ x. (inside a b d && x) || takes others (d ∷ ds)) h
        ∙ alg_join (inside a b d) (takes_one (q ∷ qs) n ds) (takes below ds) (takes others (d ∷ ds))
        ∙ ap₂ (λ x y. (inside x y d && takes_one (q ∷ qs) n ds) || ((inside a b d && takes below ds) || takes others (d ∷ ds)))
        (sym (eqb-true r.0 a p.0)) (sym (eqb-true r.1 b p.1)))
    by_case h k (inr t) =
        rw t (ap (λ x. (inside r.0 r.1 d && x) || ((inside a b d && takes below ds) || takes others (d ∷ ds))) k)

-- the tree takes what its sequences take
pub tree_takes : (ss : List Sequence) → AllByRecursion IsLed ss → (d : ℕ) (ds : List ℕ) → takes (tree_of ss) (d ∷ ds) ≡ takes_some ss (d ∷ ds)
tree_takes [] each d ds = refl
tree_takes (([], n) ∷ ss) each d ds = absurd each.0
tree_takes (((r ∷ rs), n) ∷ ss) each d ds =
    put_takes r rs n (tree_of ss) (d ∷ ds) ∙ ap (λ x. takes_one (r ∷ rs) n (d ∷ ds) || x) (tree_takes ss each.1 d ds)

-- the tree takes these bytes with a path over k of them
pub data Takes : Tree → List ℕ → ℕ → Type 0 where
  by_rest : {a b n d : ℕ} {others : Tree} {ds : List ℕ} → inside a b d ≡ true → takes_any n ds ≡ true → Takes (ends a b n others) (d ∷ ds) (suc n)
  by_below : {a b d k : ℕ} {below others : Tree} {ds : List ℕ} → inside a b d ≡ true → Takes below ds k → Takes (goes a b below others) (d ∷ ds) (suc k)
  past_end : {a b n k : ℕ} {others : Tree} {bs : List ℕ} → Takes others bs k → Takes (ends a b n others) bs k
  past_way : {a b k : ℕ} {below others : Tree} {bs : List ℕ} → Takes others bs k → Takes (goes a b below others) bs k

-- the sequence takes the bytes, and is over k of them
abbrev pub Over : List Range → ℕ → List ℕ → ℕ → Type 0
Over rs n bs k = (takes_one rs n bs ≡ true) × (k ≡ length rs + n)

-- a path of a tree with one more sequence is over that, or is the tree's
put_parts : (r : Range) (rs : List Range) (n : ℕ) (tree : Tree) (bs : List ℕ) (k : ℕ) → Takes (put (r ∷ rs) n tree) bs k →
    Over (r ∷ rs) n bs k ⊎ Takes tree bs k
put_parts r [] n tree (d ∷ ds) _ (by_rest i h) = inl (and_from _ _ i h, omega arith)
put_parts r [] n tree bs k (past_end h) = inr h
put_parts r (q ∷ qs) n none (d ∷ ds) (suc k) (by_below i h) = inl (led r q qs n d ds k i (put_parts q qs n none ds k h))
  where
    led : (r q : Range) (qs : List Range) (n d : ℕ) (ds : List ℕ) (k : ℕ) → inside r.0 r.1 d ≡ true → Over (q ∷ qs) n ds k ⊎ Takes none ds k →
        Over (r ∷ q ∷ qs) n (d ∷ ds) (suc k)
    led r q qs n d ds k i (inl x) = (and_from _ _ i x.0, let e = x.1 in omega (arith, e))
    led r q qs n d ds k i (inr x) = elim x [ ]
put_parts r (q ∷ qs) n none bs k (past_way h) = inr h
put_parts r (q ∷ qs) n (ends a b m others) (d ∷ ds) (suc k) (by_below i h) = inl (led r q qs n d ds k i (put_parts q qs n none ds k h))
  where
    led : (r q : Range) (qs : List Range) (n d : ℕ) (ds : List ℕ) (k : ℕ) → inside r.0 r.1 d ≡ true → Over (q ∷ qs) n ds k ⊎ Takes none ds k →
        Over (r ∷ q ∷ qs) n (d ∷ ds) (suc k)
    led r q qs n d ds k i (inl x) = (and_from _ _ i x.0, let e = x.1 in omega (arith, e))
    led r q qs n d ds k i (inr x) = elim x [ ]
put_parts r (q ∷ qs) n (ends a b m others) bs k (past_way h) = inr h
put_parts r (q ∷ qs) n (goes a b below others) bs k h =
    by_case (λ ds j. put_parts q qs n below ds j) (λ ds j. put_parts q qs n none ds j) (cases_Bool (nat_eq r.0 a && nat_eq r.1 b))
  where
    joined : ((ds : List ℕ) (j : ℕ) → Takes (put (q ∷ qs) n below) ds j → Over (q ∷ qs) n ds j ⊎ Takes below ds j) → r.0 ≡ a → r.1 ≡ b →
        {bs : List ℕ} {k : ℕ} → Takes (goes a b (put (q ∷ qs) n below) others) bs k → Over (r ∷ q ∷ qs) n bs k ⊎ Takes (goes a b below others) bs k
    joined more e f (by_below {d = d} {k = j} {ds = ds} i x) =
        ⊎_elim
        (λ y. let g = y.1 in
        inl (and_from _ _ (subst (λ z. inside z r.1 d ≡ true) (sym e) (subst (λ z. inside a z d ≡ true) (sym f) i)) y.0, omega (arith, g)))
        (λ y. inr (by_below i y)) (more ds j x)
    joined more e f (past_way x) = inr (past_way x)

    apart : ((ds : List ℕ) (j : ℕ) → Takes (put (q ∷ qs) n none) ds j → Over (q ∷ qs) n ds j ⊎ Takes none ds j) →
        {bs : List ℕ} {k : ℕ} → Takes (goes r.0 r.1 (put (q ∷ qs) n none) (goes a b below others)) bs k →
        Over (r ∷ q ∷ qs) n bs k ⊎ Takes (goes a b below others) bs k
    apart new (by_below {d = d} {k = j} {ds = ds} i x) =
        ⊎_elim (λ y. let g = y.1 in inl (and_from _ _ i y.0, omega (arith, g))) (λ y. elim y [ ]) (new ds j x)
    apart new (past_way x) = inr x

    by_case : ((ds : List ℕ) (j : ℕ) → Takes (put (q ∷ qs) n below) ds j → Over (q ∷ qs) n ds j ⊎ Takes below ds j) →
        ((ds : List ℕ) (j : ℕ) → Takes (put (q ∷ qs) n none) ds j → Over (q ∷ qs) n ds j ⊎ Takes none ds j) →
        ((nat_eq r.0 a && nat_eq r.1 b) ≡ true) ⊎ ((nat_eq r.0 a && nat_eq r.1 b) ≡ false) → Over (r ∷ q ∷ qs) n bs k ⊎ Takes (goes a b below others) bs k
    by_case more new (inl t) =
        let p = and_parts (nat_eq r.0 a) (nat_eq r.1 b) t in
        let g : Takes (goes a b (put (q ∷ qs) n below) others) bs k = rw t at h in joined more (eqb-true r.0 a p.0) (eqb-true r.1 b p.1) g
    by_case more new (inr t) = let g : Takes (goes r.0 r.1 (put (q ∷ qs) n none) (goes a b below others)) bs k = rw t at h in apart new g

-- the sequence is of n bytes
abbrev pub IsLong : ℕ → Sequence → Type 0
IsLong n s = IsLed s × (length s.0 + s.1 ≡ n)

-- a path of the tree is over one of the first sequences, of n bytes each, or is that of the others' tree
pub tree_parts : (n : ℕ) (xs ys : List Sequence) → AllByRecursion (IsLong n) xs → (bs : List ℕ) (k : ℕ) → Takes (tree_of (xs ++ ys)) bs k →
    ((takes_some xs bs ≡ true) × (k ≡ n)) ⊎ Takes (tree_of ys) bs k
tree_parts n [] ys each bs k h = inr h
tree_parts n (([], m) ∷ xs) ys each bs k h = absurd each.0.0
tree_parts n (((r ∷ rs), m) ∷ xs) ys each bs k h =
    ⊎_elim
    (λ x. inl (or_left _ _ x.0, let e = x.1 in let l = each.0.1 in omega (arith, e, l)))
    (λ x. ⊎_elim (λ y. inl (or_right _ _ y.0, y.1)) (λ y. inr y) (tree_parts n xs ys each.1 bs k x))
    (put_parts r rs m (tree_of (xs ++ ys)) bs k h)

-- WHAT SEQUENCES TAKE

pub some_append : (xs ys : List Sequence) (bs : List ℕ) → takes_some (xs ++ ys) bs ≡ (takes_some xs bs || takes_some ys bs)
some_append [] ys bs = refl
some_append (s ∷ xs) ys bs =
    ap (λ x. takes_one s.0 s.1 bs || x) (some_append xs ys bs) ∙ alg_or (takes_one s.0 s.1 bs) (takes_some xs bs) (takes_some ys bs)

behind_takes : (a : ℕ) (ss : List Sequence) (d : ℕ) (ds : List ℕ) → takes_some (behind a ss) (d ∷ ds) ≡ (inside a a d && takes_some ss ds)
behind_takes a [] d ds = ⊎_elim (λ t. rw t refl) (λ f. rw f refl) (cases_Bool (inside a a d))
behind_takes a (s ∷ ss) d ds =
    ap (λ x. (inside a a d && takes_one s.0 s.1 ds) || x) (behind_takes a ss d ds)
    ∙ both (inside a a d) (takes_one s.0 s.1 ds) (takes_some ss ds)
  where
    both : (i x y : Bool) → ((i && x) || (i && y)) ≡ (i && (x || y))
    both true x y = refl
    both false x y = refl

inside_off : (a b d : ℕ) → ((d < a) ⊎ (b < d)) → inside a b d ≡ false
inside_off a b d h = false_from_ne_true (inside a b d) (λ t. let p = inside_parts a b d t in
    ⊎_elim (λ l. absurd (omega (arith, l, p.0))) (λ l. absurd (omega (arith, l, p.1))) h)

some_takes : (a b n d : ℕ) (ds : List ℕ) → takes_some (if_some a b n) (d ∷ ds) ≡ ((inside a b d && takes_any n ds) || false)
some_takes a b n d ds =
    ⊎_elim (λ t. rw t refl)
    (λ f. rw f (sym (ap (λ x. (x && takes_any n ds) || false)
    (false_from_ne_true (inside a b d) (λ t. let p = inside_parts a b d t in true≢false (sym (le-leb a b (omega (arith, p.0, p.1))) ∙ f))))))
    (cases_Bool (nat_le a b))

-- two ranges side by side are one
union : (a b d : ℕ) (x r : Bool) → a ≤ b → ((inside a a d && x) || ((inside (a + 1) b d && x) || r)) ≡ ((inside a b d && x) || r)
union a b d x r le =
    ⊎_elim
    (λ e. rw (inside_from a a d (omega (arith, e)) (omega (arith, e)), inside_off (a + 1) b d (inl (omega (arith, e))), inside_from a b d (omega (arith, e)) (omega (arith, e, le))) refl)
    (⊎_elim
    (λ l. rw (inside_off a a d (inr l)) (ap (λ y. (y && x) || r) (same l)))
    (λ l. rw (inside_off a a d (inl l), inside_off (a + 1) b d (inl (omega (arith, l))), inside_off a b d (inl l)) refl))
    (cases_order a d)
  where
    same : a < d → inside (a + 1) b d ≡ inside a b d
    same l = ap (λ y. y && nat_le d b) (le-leb (a + 1) d (omega (arith, l)) ∙ sym (le-leb a d (omega (arith, l))))

absorb : (y x r : Bool) → ((y && x) || (x || r)) ≡ (x || r)
absorb true true r = refl
absorb true false r = refl
absorb false x r = refl

union_high : (a b d : ℕ) (x r : Bool) → a ≤ b → ((inside a (b - 1) d && x) || ((inside b b d && x) || r)) ≡ ((inside a b d && x) || r)
union_high a b d x r le =
    ⊎_elim
    (λ e. rw (inside_from b b d (omega (arith, e)) (omega (arith, e)), inside_from a b d (omega (arith, e, le)) (omega (arith, e))) (absorb (inside a (b - 1) d) x r))
    (⊎_elim
    (λ l. rw (inside_off b b d (inr l), inside_off a (b - 1) d (inr (omega (arith, l))), inside_off a b d (inr l)) refl)
    (λ l. rw (inside_off b b d (inl l)) (ap (λ y. (y && x) || r) (same l))))
    (cases_order b d)
  where
    same : d < b → inside a (b - 1) d ≡ inside a b d
    same l = ap (λ y. nat_le a d && y) (le-leb d (b - 1) (omega (arith, l)) ∙ sym (le-leb d b (omega (arith, l))))

from_least : (xs ds : List ℕ) → 0 < length xs → all_are 128 xs ≡ true → takes_from xs ds ≡ takes_any (length xs) ds
from_least [] ds some h = absurd (omega arith)
from_least (a ∷ []) [] some h = refl
from_least (a ∷ []) (d ∷ ds) some h =
    ap (λ k. (inside k 191 d && true) || false) (eqb-true a 128 (and_parts (nat_eq a 128) true h).0)
from_least (a ∷ c ∷ xs) [] some h = refl
from_least (a ∷ c ∷ xs) (d ∷ ds) some h =
    let p = and_parts (nat_eq a 128) (all_are 128 (c ∷ xs)) h in
    let e = eqb-true a 128 p.0 in
    ap (λ x. (inside a a d && x) || ((inside (a + 1) 191 d && takes_any (length (c ∷ xs)) ds) || false)) (from_least (c ∷ xs) ds (omega arith) p.1)
    ∙ union a 191 d (takes_any (length (c ∷ xs)) ds) false (omega (arith, e))
    ∙ ap (λ k. (inside k 191 d && takes_any (length (c ∷ xs)) ds) || false) e

to_most : (bs ds : List ℕ) → 0 < length bs → all_are 191 bs ≡ true → takes_to bs ds ≡ takes_any (length bs) ds
to_most [] ds some h = absurd (omega arith)
to_most (b ∷ []) [] some h = refl
to_most (b ∷ []) (d ∷ ds) some h =
    ap (λ k. (inside 128 k d && true) || false) (eqb-true b 191 (and_parts (nat_eq b 191) true h).0)
to_most (b ∷ c ∷ bs) [] some h = refl
to_most (b ∷ c ∷ bs) (d ∷ ds) some h =
    let p = and_parts (nat_eq b 191) (all_are 191 (c ∷ bs)) h in
    let e = eqb-true b 191 p.0 in
    ap (λ x. (inside 128 (b - 1) d && takes_any (length (c ∷ bs)) ds) || ((inside b b d && x) || false)) (to_most (c ∷ bs) ds (omega arith) p.1)
    ∙ union_high 128 b d (takes_any (length (c ∷ bs)) ds) false (omega (arith, e))
    ∙ ap (λ k. (inside 128 k d && takes_any (length (c ∷ bs)) ds) || false) e

within_full : (xs bs ds : List ℕ) → 0 < length xs → length bs ≡ length xs → all_are 128 xs ≡ true → all_are 191 bs ≡ true →
    takes_within xs bs ds ≡ takes_any (length xs) ds
within_full [] bs ds some len h k = absurd (omega arith)
within_full (a ∷ xs) [] ds some len h k = absurd (omega (arith, len))
within_full (a ∷ []) (b ∷ bs) [] some len h k = refl
within_full (a ∷ []) (b ∷ bs) (d ∷ ds) some len h k =
    ap₂ (λ x y. (inside x y d && true) || false) (eqb-true a 128 (and_parts (nat_eq a 128) true h).0) (eqb-true b 191 (and_parts (nat_eq b 191) _ k).0)
within_full (a ∷ c ∷ xs) (b ∷ bs) [] some len h k = refl
within_full (a ∷ c ∷ xs) (b ∷ bs) (d ∷ ds) some len h k =
    let p = and_parts (nat_eq a 128) (all_are 128 (c ∷ xs)) h in
    let q = and_parts (nat_eq b 191) (all_are 191 bs) k in
    let e = eqb-true a 128 p.0 in
    let f = eqb-true b 191 q.0 in
    let any = takes_any (length (c ∷ xs)) ds in
    let l : length bs ≡ length (c ∷ xs) = omega (arith, len) in
    rw (ne_eqb a b (λ i. omega (arith, e, f, i)))
    (ap₂ (λ x y. (inside a a d && x) || ((inside (a + 1) (b - 1) d && any) || ((inside b b d && y) || false)))
    (from_least (c ∷ xs) ds (omega arith) p.1) (to_most bs ds (omega (arith, l)) q.1 ∙ ap (λ n. takes_any n ds) l)
    ∙ ap (λ x. (inside a a d && any) || x) (union_high (a + 1) b d any false (omega (arith, e, f)))
    ∙ union a b d any false (omega (arith, e, f))
    ∙ ap₂ (λ x y. (inside x y d && any) || false) e f)

-- no sequence takes nothing
led_nothing : (ss : List Sequence) → AllByRecursion IsLed ss → takes_some ss [] ≡ false
led_nothing [] each = refl
led_nothing (([], n) ∷ ss) each = absurd each.0
led_nothing (((r ∷ rs), n) ∷ ss) each = led_nothing ss each.1

-- bytes from `a` on: `a` itself, then at least `xs`, and what is greater
from_lead : (a c : ℕ) (xs : List ℕ) (last d : ℕ) (ds : List ℕ) → takes_any (length (c ∷ xs)) (c ∷ xs) ≡ true →
    takes_some (from_bytes (c ∷ xs) 191) ds ≡ takes_from (c ∷ xs) ds →
    takes_some (from_bytes (a ∷ c ∷ xs) last) (d ∷ ds)
    ≡ ((inside a a d && takes_from (c ∷ xs) ds) || ((inside (a + 1) last d && takes_any (length (c ∷ xs)) ds) || false))
from_lead a c xs last d ds ok below =
    let any = takes_any (length (c ∷ xs)) ds in
    ⊎_elim
    (λ t. let p = and_parts (all_are 128 (c ∷ xs)) (nat_le a last) t in
    rw t (sym (ap (λ x. (inside a a d && x) || ((inside (a + 1) last d && any) || false)) (from_least (c ∷ xs) ds (omega arith) p.0)
    ∙ union a last d any false (leb-true a last p.1))))
    (λ f. rw f (some_append (behind a (from_bytes (c ∷ xs) 191)) (if_some (a + 1) last (length (c ∷ xs))) (d ∷ ds)
    ∙ ap₂ ◌||◌ (behind_takes a (from_bytes (c ∷ xs) 191) d ds ∙ ap (λ x. inside a a d && x) below) (some_takes (a + 1) last (length (c ∷ xs)) d ds)))
    (cases_Bool (all_are 128 (c ∷ xs) && nat_le a last))

-- HOW LONG SEQUENCES ARE

each_both : (n : ℕ) (xs ys : List Sequence) → AllByRecursion (IsLong n) xs → AllByRecursion (IsLong n) ys → AllByRecursion (IsLong n) (xs ++ ys)
each_both n [] ys a b = b
each_both n (s ∷ xs) ys a b = (a.0, each_both n xs ys a.1 b)

behind_long : (n a : ℕ) (ss : List Sequence) → AllByRecursion (IsLong n) ss → AllByRecursion (IsLong (suc n)) (behind a ss)
behind_long n a [] each = tt
behind_long n a (s ∷ ss) each = ((tt, let e = each.0.1 in omega (arith, e)), behind_long n a ss each.1)

some_long : (a b n : ℕ) → AllByRecursion (IsLong (suc n)) (if_some a b n)
some_long a b n = ⊎_elim (λ t. rw t ((tt, omega arith), tt)) (λ f. rw f tt) (cases_Bool (nat_le a b))

from_long : (xs : List ℕ) (last : ℕ) → AllByRecursion (IsLong (length xs)) (from_bytes xs last)
from_long [] last = tt
from_long (a ∷ xs) last =
    ⊎_elim (λ t. rw t ((tt, omega arith), tt))
    (λ f. rw f (each_both (suc (length xs)) (behind a (from_bytes xs 191)) (if_some (a + 1) last (length xs))
    (behind_long (length xs) a (from_bytes xs 191) (from_long xs 191)) (some_long (a + 1) last (length xs))))
    (cases_Bool (all_are 128 xs && nat_le a last))

to_long : (bs : List ℕ) → AllByRecursion (IsLong (length bs)) (to_bytes bs)
to_long [] = tt
to_long (b ∷ bs) =
    ⊎_elim (λ t. rw t ((tt, omega arith), tt))
    (λ f. rw f (each_both (suc (length bs)) (if_some 128 (b - 1) (length bs)) (behind b (to_bytes bs))
    (some_long 128 (b - 1) (length bs)) (behind_long (length bs) b (to_bytes bs) (to_long bs))))
    (cases_Bool (all_are 191 bs))

one_long : (v : Bool) (a n : ℕ) (below : List Sequence) → AllByRecursion (IsLong n) below → AllByRecursion (IsLong (suc n)) (over_one v a n below)
one_long true a n below each = ((tt, omega arith), tt)
one_long false a n below each = behind_long n a below each

both_long : (v : Bool) (a : ℕ) (xs : List ℕ) (b : ℕ) (bs : List ℕ) → length bs ≡ length xs → AllByRecursion (IsLong (suc (length xs))) (over_both v (a ∷ xs) b bs)
both_long true a xs b bs len = from_long (a ∷ xs) b
both_long false a xs b bs len =
    each_both (suc (length xs)) (from_bytes (a ∷ xs) (b - 1)) (behind b (to_bytes bs)) (from_long (a ∷ xs) (b - 1))
    (subst (λ n. AllByRecursion (IsLong (suc n)) (behind b (to_bytes bs))) len (behind_long (length bs) b (to_bytes bs) (to_long bs)))

pub within_long : (xs bs : List ℕ) → length bs ≡ length xs → AllByRecursion (IsLong (length xs)) (within_bytes xs bs)
within_long [] bs len = tt
within_long (a ∷ []) [] len = tt
within_long (a ∷ []) (b ∷ bs) len = ((tt, omega arith), tt)
within_long (a ∷ c ∷ xs) [] len = tt
within_long (a ∷ c ∷ xs) (b ∷ bs) len =
    let l : length bs ≡ length (c ∷ xs) = omega (arith, len) in
    ⊎_elim
    (λ e. rw (eq-eqb a b e) (one_long (all_are 128 (c ∷ xs) && all_are 191 bs) a (length (c ∷ xs)) (within_bytes (c ∷ xs) bs) (within_long (c ∷ xs) bs l)))
    (λ e. rw (ne_eqb a b e) (both_long (all_are 191 bs && nat_lt a b) a (c ∷ xs) b bs l))
    (cases_eq a b)

pub long_led : (n : ℕ) (ss : List Sequence) → AllByRecursion (IsLong n) ss → AllByRecursion IsLed ss
long_led n [] each = tt
long_led n (s ∷ ss) each = (each.0.0, long_led n ss each.1)

-- WHAT LIES FROM THE ONE SEQUENCE TO THE OTHER

from_same : (xs ds : List ℕ) → takes_any (length xs) xs ≡ true → takes_some (from_bytes xs 191) ds ≡ takes_from xs ds
from_same [] ds ok = refl
from_same (a ∷ xs) [] ok = led_nothing (from_bytes (a ∷ xs) 191) (long_led (suc (length xs)) (from_bytes (a ∷ xs) 191) (from_long (a ∷ xs) 191)) ∙ nil xs
  where
    nil : (xs : List ℕ) → false ≡ takes_from (a ∷ xs) []
    nil [] = refl
    nil (c ∷ xs) = refl
from_same (a ∷ []) (d ∷ ds) ok = let p = any_parts 0 a [] ok in rw (le-leb a 191 p.1) refl
from_same (a ∷ c ∷ xs) (d ∷ ds) ok =
    let p = any_parts (length (c ∷ xs)) a (c ∷ xs) ok in from_lead a c xs 191 d ds p.2 (from_same (c ∷ xs) ds p.2)

to_same : (bs ds : List ℕ) → takes_any (length bs) bs ≡ true → takes_some (to_bytes bs) ds ≡ takes_to bs ds
to_same [] ds ok = refl
to_same (b ∷ bs) [] ok = led_nothing (to_bytes (b ∷ bs)) (long_led (suc (length bs)) (to_bytes (b ∷ bs)) (to_long (b ∷ bs))) ∙ nil bs
  where
    nil : (bs : List ℕ) → false ≡ takes_to (b ∷ bs) []
    nil [] = refl
    nil (c ∷ bs) = refl
to_same (b ∷ []) (d ∷ ds) ok = refl
to_same (b ∷ c ∷ bs) (d ∷ ds) ok =
    let p = any_parts (length (c ∷ bs)) b (c ∷ bs) ok in
    let any = takes_any (length (c ∷ bs)) ds in
    let below = to_same (c ∷ bs) ds p.2 in
    ⊎_elim
    (λ t. rw t (sym (ap (λ x. (inside 128 (b - 1) d && any) || ((inside b b d && x) || false)) (to_most (c ∷ bs) ds (omega arith) t)
    ∙ union_high 128 b d any false p.0)))
    (λ f. rw f (some_append (if_some 128 (b - 1) (length (c ∷ bs))) (behind b (to_bytes (c ∷ bs))) (d ∷ ds)
    ∙ ap₂ ◌||◌ (some_takes 128 (b - 1) (length (c ∷ bs)) d ds) (behind_takes b (to_bytes (c ∷ bs)) d ds ∙ ap (λ x. inside b b d && x) below)
    ∙ alg_two (inside 128 (b - 1) d && any) (inside b b d && takes_to (c ∷ bs) ds)))
    (cases_Bool (all_are 191 (c ∷ bs)))
  where
    alg_two : (x y : Bool) → ((x || false) || y) ≡ (x || (y || false))
    alg_two true y = refl
    alg_two false y = alg_end y

one_takes : (v : Bool) (a n : ℕ) (below : List Sequence) (d : ℕ) (ds : List ℕ) (x : Bool) → (v ≡ true → takes_any n ds ≡ x) → takes_some below ds ≡ x →
    takes_some (over_one v a n below) (d ∷ ds) ≡ ((inside a a d && x) || false)
one_takes true a n below d ds x h k = ap (λ y. (inside a a d && y) || false) (h refl)
one_takes false a n below d ds x h k = behind_takes a below d ds ∙ ap (λ y. inside a a d && y) k ∙ alg_end (inside a a d && x)

both_takes : (v : Bool) (a c : ℕ) (xs : List ℕ) (b : ℕ) (bs : List ℕ) (d : ℕ) (ds : List ℕ) → length bs ≡ length (c ∷ xs) →
    takes_any (length (c ∷ xs)) (c ∷ xs) ≡ true → takes_any (length bs) bs ≡ true → (v ≡ true → (all_are 191 bs ≡ true) × (a < b)) →
    takes_some (over_both v (a ∷ c ∷ xs) b bs) (d ∷ ds)
    ≡ ((inside a a d && takes_from (c ∷ xs) ds)
    || ((inside (a + 1) (b - 1) d && takes_any (length (c ∷ xs)) ds) || ((inside b b d && takes_to bs ds) || false)))
both_takes true a c xs b bs d ds len ok more h =
    let r = h refl in
    let any = takes_any (length (c ∷ xs)) ds in
    from_lead a c xs b d ds ok (from_same (c ∷ xs) ds ok)
    ∙ ap (λ x. (inside a a d && takes_from (c ∷ xs) ds) || x)
    (sym (ap (λ x. (inside (a + 1) (b - 1) d && any) || ((inside b b d && x) || false))
    (to_most bs ds (omega (arith, len)) r.0 ∙ ap (λ n. takes_any n ds) len)
    ∙ union_high (a + 1) b d any false (let l = r.1 in omega (arith, l))))
both_takes false a c xs b bs d ds len ok more h =
    some_append (from_bytes (a ∷ c ∷ xs) (b - 1)) (behind b (to_bytes bs)) (d ∷ ds)
    ∙ ap₂ ◌||◌ (from_lead a c xs (b - 1) d ds ok (from_same (c ∷ xs) ds ok)) (behind_takes b (to_bytes bs) d ds ∙ ap (λ x. inside b b d && x) (to_same bs ds more))
    ∙ alg_three (inside a a d && takes_from (c ∷ xs) ds) (inside (a + 1) (b - 1) d && takes_any (length (c ∷ xs)) ds) (inside b b d && takes_to bs ds)
  where
    alg_three : (x y z : Bool) → ((x || (y || false)) || z) ≡ (x || (y || (z || false)))
    alg_three true y z = refl
    alg_three false true z = refl
    alg_three false false z = alg_end z

pub within_same : (a : ℕ) (xs : List ℕ) (b : ℕ) (bs ds : List ℕ) → length bs ≡ length xs → takes_any (length xs) xs ≡ true → takes_any (length bs) bs ≡ true →
    takes_some (within_bytes (a ∷ xs) (b ∷ bs)) ds ≡ takes_within (a ∷ xs) (b ∷ bs) ds
within_same a xs b bs [] len ok more =
    led_nothing (within_bytes (a ∷ xs) (b ∷ bs)) (long_led (suc (length xs)) (within_bytes (a ∷ xs) (b ∷ bs)) (within_long (a ∷ xs) (b ∷ bs) (omega (arith, len))))
    ∙ nil xs
  where
    nil : (xs : List ℕ) → false ≡ takes_within (a ∷ xs) (b ∷ bs) []
    nil [] = refl
    nil (c ∷ xs) = refl
within_same a [] b bs (d ∷ ds) len ok more = refl
within_same a (c ∷ xs) b [] (d ∷ ds) len ok more = absurd (omega (arith, len))
within_same a (c ∷ xs) b (f ∷ bs) (d ∷ ds) len ok more =
    let p = any_parts (length xs) c xs ok in
    let q = any_parts (length bs) f bs more in
    let below = within_same c xs f bs ds (omega (arith, len)) p.2 q.2 in
    ⊎_elim
    (λ e. rw (eq-eqb a b e) (one_takes (all_are 128 (c ∷ xs) && all_are 191 (f ∷ bs)) a (length (c ∷ xs)) (within_bytes (c ∷ xs) (f ∷ bs)) d ds
    (takes_within (c ∷ xs) (f ∷ bs) ds)
    (λ t. let r = and_parts (all_are 128 (c ∷ xs)) (all_are 191 (f ∷ bs)) t in
    sym (within_full (c ∷ xs) (f ∷ bs) ds (omega arith) len r.0 r.1)) below))
    (λ e. rw (ne_eqb a b e) (both_takes (all_are 191 (f ∷ bs) && nat_lt a b) a c xs b (f ∷ bs) d ds len ok more
    (λ t. let r = and_parts (all_are 191 (f ∷ bs)) (nat_lt a b) t in (r.0, ltb-true a b r.1))))
    (cases_eq a b)
