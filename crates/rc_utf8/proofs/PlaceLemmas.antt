-- What the code adds of the places of a class.
use Rattle.std.proofs.Common.{◌≡◌, ℕ, zero, suc, ◌+◌, ◌-◌, ◌<◌, ◌≤◌, ◌⊎◌, List, [], ◌∷◌, ◌++◌, length, drop, take, map, inl, inr, sym, subst, ap, ap₂, ◌∙◌, refl, arith, length-drop, get_or, append_assoc, true, false, true≢false, ◌&&◌, nat_eq}
use Rattle.std.specs.List.{AllByRecursion}
use Rattle.std.proofs.lemmas.Bool.{and_parts, and_from, false_from_ne_true, cases_Bool, eq-eqb, eqb-true}
use Rattle.std.proofs.lemmas.List.{append-nil, length-map}
use Rattle.rc_pattern.specs.Re.{Range}
use Rattle.rc_pattern.specs.Meaning.{byte_range}
use Rattle.rc_pattern.specs.declared.hir.ClassBytesRange.{ClassBytesRange}
use Rattle.rc_program.specs.Program.{Place, branch}
use Rattle.rc_utf8.specs.Bytes.{Sequence, Tree, none, ends, goes, put, tree_of, size, rest_of, tails, tree_ways, tree_block}
use Rattle.rc_utf8.specs.Places.{AllBegin, IsDeep, IsNext, Lays, all_left_at, begins_with, left_at, places_of, sequence_of, sequences_of, ways_of}
use Rattle.rc_utf8.specs.declared.place.ByteWay.{ByteWay}
use Rattle.rc_utf8.specs.declared.place.BytePlace as code
use Rattle.rc_utf8.specs.declared.program.sequence.Sequence as code_sequence

-- THE FIRST SEQUENCES OVER ONE WAY

-- without its first range
abbrev pub behind_first : Sequence → Sequence
behind_first s = (drop 1 s.0, s.1)

-- one sequence more over the way
put_group : (r : Range) (qs : List Range) (n : ℕ) (below others : Tree) → begins_with r qs ≡ true →
    put qs n (goes r.0 r.1 below others) ≡ goes r.0 r.1 (put (drop 1 qs) n below) others
put_group r [] n below others h = absurd (true≢false (sym h))
put_group r (q ∷ []) n below others h = absurd (true≢false (sym h))
put_group r (q ∷ p ∷ ps) n below others h = rw h refl

put_lead : (u v : Range) (vs : List Range) (m : ℕ) (tree : Tree) → (below : Tree) × (others : Tree) × (put (u ∷ v ∷ vs) m tree ≡ goes u.0 u.1 below others)
put_lead u v vs m none = (put (v ∷ vs) m none, none, refl)
put_lead u v vs m (ends a b n others) = (put (v ∷ vs) m none, ends a b n others, refl)
put_lead u v vs m (goes a b below others) = from (cases_Bool (nat_eq u.0 a && nat_eq u.1 b))
  where
    from : ((nat_eq u.0 a && nat_eq u.1 b) ≡ true) ⊎ ((nat_eq u.0 a && nat_eq u.1 b) ≡ false) →
        (inner : Tree) × (outer : Tree) × (put (u ∷ v ∷ vs) m (goes a b below others) ≡ goes u.0 u.1 inner outer)
    from (inl t) =
        let e = and_parts (nat_eq u.0 a) (nat_eq u.1 b) t in
        (put (v ∷ vs) m below, others, rw t (ap₂ (λ x y. goes x y (put (v ∷ vs) m below) others) (sym (eqb-true u.0 a e.0)) (sym (eqb-true u.1 b e.1))))
    from (inr f) = (put (v ∷ vs) m none, goes a b below others, rw f refl)

off : (q u : Range) → (nat_eq u.0 q.0 && nat_eq u.1 q.1) ≡ false → (nat_eq q.0 u.0 && nat_eq q.1 u.1) ≡ false
off q u h = false_from_ne_true _ (λ t. let e = and_parts (nat_eq q.0 u.0) (nat_eq q.1 u.1) t in
    true≢false (sym (and_from _ _ (eq-eqb u.0 q.0 (sym (eqb-true q.0 u.0 e.0))) (eq-eqb u.1 q.1 (sym (eqb-true q.1 u.1 e.1)))) ∙ h))

-- the first over a way
put_apart : (q p : Range) (ps : List Range) (n : ℕ) (us : List Range) (m : ℕ) (tree : Tree) → 0 < length us → begins_with q us ≡ false →
    put (q ∷ p ∷ ps) n (put us m tree) ≡ goes q.0 q.1 (put (p ∷ ps) n none) (put us m tree)
put_apart q p ps n [] m tree some h = absurd (omega (arith, some))
put_apart q p ps n (u ∷ []) m tree some h = refl
put_apart q p ps n (u ∷ v ∷ vs) m tree some h =
    let l = put_lead u v vs m tree in
    subst (λ t. put (q ∷ p ∷ ps) n t ≡ goes q.0 q.1 (put (p ∷ ps) n none) t) (sym l.2) (rw (off q u h) refl)

abbrev pub IsSome : Sequence → Type 0
IsSome s = 0 < length s.0

put_new : (r : Range) (qs : List Range) (n : ℕ) (ss : List Sequence) → AllByRecursion IsSome ss → begins_with r qs ≡ true → IsNext r ss →
    put qs n (tree_of ss) ≡ goes r.0 r.1 (put (drop 1 qs) n none) (tree_of ss)
put_new r [] n ss each h next = absurd (true≢false (sym h))
put_new r (q ∷ []) n ss each h next = absurd (true≢false (sym h))
put_new r (q ∷ p ∷ ps) n ss each h next =
    let e = and_parts (nat_eq q.0 r.0) (nat_eq q.1 r.1) h in
    let same : q ≡ r = ap₂ (λ (a b : ℕ). (a, b)) (eqb-true q.0 r.0 e.0) (eqb-true q.1 r.1 e.1) in
    from ss each (subst (λ x. IsNext x ss) (sym same) next) ∙ ap (λ (x : Range). goes x.0 x.1 (put (p ∷ ps) n none) (tree_of ss)) same
  where
    from : (ss : List Sequence) → AllByRecursion IsSome ss → IsNext q ss → put (q ∷ p ∷ ps) n (tree_of ss) ≡ goes q.0 q.1 (put (p ∷ ps) n none) (tree_of ss)
    from [] each next = refl
    from (s ∷ ss) each next = put_apart q p ps n s.0 s.1 (tree_of ss) each.0 next

-- the tree of some sequences over one way, and others
pub grouped : (r : Range) (xs ys : List Sequence) → 0 < length xs → AllBegin r xs → AllByRecursion IsSome ys → IsNext r ys →
    tree_of (xs ++ ys) ≡ goes r.0 r.1 (tree_of (map behind_first xs)) (tree_of ys)
grouped r [] ys some each led next = absurd (omega (arith, some))
grouped r (s ∷ []) ys some each led next = put_new r s.0 s.1 ys led each.0 next
grouped r (s ∷ t ∷ xs) ys some each led next =
    ap (put s.0 s.1) (grouped r (t ∷ xs) ys (omega arith) each.1 led next)
    ∙ put_group r s.0 s.1 (tree_of (map behind_first (t ∷ xs))) (tree_of ys) each.0

-- THE SEQUENCES AS CODE HAS THEM

take_drop : {A : Type 0} (n : ℕ) (xs : List A) → take n xs ++ drop n xs ≡ xs
take_drop zero xs = refl
take_drop (suc n) [] = refl
take_drop (suc n) (x ∷ xs) = ap (λ ys. x ∷ ys) (take_drop n xs)

map_take : {A B : Type 0} (f : A → B) (n : ℕ) (xs : List A) → map f (take n xs) ≡ take n (map f xs)
map_take f zero xs = refl
map_take f (suc n) [] = refl
map_take f (suc n) (x ∷ xs) = ap (λ ys. f x ∷ ys) (map_take f n xs)

map_drop : {A B : Type 0} (f : A → B) (n : ℕ) (xs : List A) → map f (drop n xs) ≡ drop n (map f xs)
map_drop f zero xs = refl
map_drop f (suc n) [] = refl
map_drop f (suc n) (x ∷ xs) = map_drop f n xs

abbrev nil : (A : Type 0) → List A
nil A = []

drop_more : {A : Type 0} (m n : ℕ) (xs : List A) → drop n (drop m xs) ≡ drop (m + n) xs
drop_more {A = A} m n xs = from m xs
  where
    from : (m : ℕ) (xs : List A) → drop n (drop m xs) ≡ drop (m + n) xs
    from zero xs = let e : n ≡ 0 + n = omega arith in ap (λ k. drop k xs) e
    from (suc m) [] = nothing n ∙ sym (nothing (suc m + n))
      where
        nothing : (k : ℕ) → drop k (nil A) ≡ nil A
        nothing zero = refl
        nothing (suc k) = refl
    from (suc m) (x ∷ xs) = let e : suc (m + n) ≡ suc m + n = omega arith in from m xs ∙ ap (λ k. drop k (x ∷ xs)) e

pub rest_is : {A : Type 0} (n : ℕ) (xs : List A) → take (length xs - n) (drop n xs) ≡ drop n xs
rest_is {A = A} zero xs = let e : length xs - 0 ≡ length xs = omega arith in ap (λ k. take k xs) e ∙ all xs
  where
    all : (ys : List A) → take (length ys) ys ≡ ys
    all [] = refl
    all (y ∷ ys) = ap (λ zs. y ∷ zs) (all ys)
rest_is (suc n) [] = let e : 0 - suc n ≡ 0 = omega arith in ap (λ k. take k (nil _)) e
rest_is (suc n) (x ∷ xs) = let e : suc (length xs) - suc n ≡ length xs - n = omega arith in ap (λ k. take k (drop n xs)) e ∙ rest_is n xs

each_drop : {A : Type 0} (P : A → Type 0) (n : ℕ) (xs : List A) → AllByRecursion P xs → AllByRecursion P (drop n xs)
each_drop P zero xs each = each
each_drop P (suc n) [] each = tt
each_drop P (suc n) (x ∷ xs) each = each_drop P n xs each.1

-- from one of the places of the sequences on
pub deep_drop : (level count n : ℕ) (xs : List code_sequence.Sequence) → AllByRecursion (IsDeep level count) (sequences_of xs) →
    AllByRecursion (IsDeep level count) (sequences_of (drop n xs))
deep_drop level count n xs each =
    subst (AllByRecursion (IsDeep level count)) (sym (map_drop sequence_of n xs)) (each_drop (IsDeep level count) n (sequences_of xs) each)

-- WHETHER A SEQUENCE GOES ON

pub begins_short : (r : Range) (us : List ClassBytesRange) (level : ℕ) → length us ≤ level + 1 → false ≡ begins_with r (drop level (map byte_range us))
begins_short r [] zero h = refl
begins_short r [] (suc level) h = refl
begins_short r (u ∷ []) zero h = refl
begins_short r (u ∷ v ∷ us) zero h = absurd (omega (arith, h))
begins_short r (u ∷ us) (suc level) h = begins_short r us level (omega (arith, h))

pub begins_there : (r : Range) (us : List ClassBytesRange) (level : ℕ) (d : ClassBytesRange) → level + 1 < length us →
    begins_with r (drop level (map byte_range us)) ≡ (nat_eq (get_or us level d).start r.0 && nat_eq (get_or us level d).end r.1)
begins_there r [] level d h = absurd (omega (arith, h))
begins_there r (u ∷ []) zero d h = absurd (omega (arith, h))
begins_there r (u ∷ v ∷ us) zero d h = refl
begins_there r (u ∷ us) (suc level) d h = begins_there r us level d (omega (arith, h))

-- one more of the group
pub group_more : (r : Range) (level i : ℕ) (xs : List code_sequence.Sequence) (x : code_sequence.Sequence) → i < length xs → x ≡ get_or xs i x →
    begins_with r (drop level (map byte_range x.ranges)) ≡ true → AllBegin r (take i (all_left_at level (sequences_of xs))) →
    AllBegin r (take (i + 1) (all_left_at level (sequences_of xs)))
group_more r level i xs x h is begins each =
    let e : suc i ≡ i + 1 = omega arith in subst (λ n. AllBegin r (take n (all_left_at level (sequences_of xs)))) e (from i xs h is each)
  where
    from : (i : ℕ) (xs : List code_sequence.Sequence) → i < length xs → x ≡ get_or xs i x → AllBegin r (take i (all_left_at level (sequences_of xs))) →
        AllBegin r (take (suc i) (all_left_at level (sequences_of xs)))
    from i [] h is each = absurd (omega (arith, h))
    from zero (y ∷ xs) h is each = (subst (λ z. begins_with r (drop level (map byte_range z.ranges)) ≡ true) is begins, tt)
    from (suc i) (y ∷ xs) h is each = (each.0, from i xs (omega (arith, h)) is each.1)

pub group_ends : (r : Range) (level i : ℕ) (xs : List code_sequence.Sequence) (x : code_sequence.Sequence) → i < length xs → x ≡ get_or xs i x →
    begins_with r (drop level (map byte_range x.ranges)) ≡ false → IsNext r (drop i (all_left_at level (sequences_of xs)))
group_ends r level i [] x h is begins = absurd (omega (arith, h))
group_ends r level zero (y ∷ xs) x h is begins = subst (λ z. begins_with r (drop level (map byte_range z.ranges)) ≡ false) is begins
group_ends r level (suc i) (y ∷ xs) x h is begins = group_ends r level i xs x (omega (arith, h)) is begins

-- TAILS

pub tails_more : (count tail next i k : ℕ) (w : List ByteWay) (b0 b1 all : List Place) → i < count → k ≡ rest_of count tail next (count - i - 1) →
    ways_of w ≡ ((128, 191), k) ∷ [] → b1 ≡ b0 ++ branch (ways_of w) ∷ [] →
    b0 ++ tails (count - i) (tail + i) next ≡ all → b1 ++ tails (count - (i + 1)) (tail + (i + 1)) next ≡ all
tails_more count tail next i k w b0 b1 all h at one e f =
    let m = count - i - 1 in
    let left : count - i ≡ suc m = omega (arith, h) in
    let after : count - (i + 1) ≡ m = omega (arith, h) in
    let on : tail + (i + 1) ≡ tail + i + 1 = omega arith in
    let here : rest_of count tail next m ≡ rest_of m (tail + i + 1) next m = same m (omega arith) in
    ap₂ (λ c t. b1 ++ tails c t next) after on
    ∙ ap (λ qs. qs ++ tails m (tail + i + 1) next) (e ∙ ap (λ ws. b0 ++ branch ws ∷ []) one)
    ∙ append_assoc b0 (branch (((128, 191), k) ∷ []) ∷ []) (tails m (tail + i + 1) next)
    ∙ ap (λ n. b0 ++ branch (((128, 191), n) ∷ []) ∷ tails m (tail + i + 1) next) (at ∙ here)
    ∙ ap (λ c. b0 ++ tails c (tail + i) next) (sym left) ∙ f
  where
    same : (m : ℕ) → m + (i + 1) ≡ count → rest_of count tail next m ≡ rest_of m (tail + i + 1) next m
    same zero h = refl
    same (suc m) h = omega (arith, h)

-- THE TREE OF SEQUENCES, BY ITS FIRST WAY

last_left : (us : List ClassBytesRange) (level : ℕ) (r : ClassBytesRange) → length us ≡ level + 1 → r ≡ get_or us level r →
    drop level (map byte_range us) ≡ byte_range r ∷ []
last_left [] level r h is = absurd (omega (arith, h))
last_left (u ∷ []) zero r h is = ap (λ x. byte_range x ∷ []) (sym is)
last_left (u ∷ v ∷ us) zero r h is = absurd (omega (arith, h))
last_left (u ∷ us) (suc level) r h is = last_left us level r (omega (arith, h)) is

pub tree_end : (level : ℕ) (xs : List code_sequence.Sequence) (x : code_sequence.Sequence) (r : ClassBytesRange) → 0 < length xs → x ≡ get_or xs 0 x →
    length x.ranges ≡ level + 1 → r ≡ get_or x.ranges level r →
    tree_of (all_left_at level (sequences_of xs)) ≡ ends r.start r.end x.rest (tree_of (all_left_at level (sequences_of (drop 1 xs))))
tree_end level [] x r some is h at = absurd (omega (arith, some))
tree_end level (y ∷ ys) x r some is h at =
    let left = tree_of (all_left_at level (sequences_of ys)) in
    ap (λ z. put (drop level (map byte_range z.ranges)) z.rest left) (sym is)
    ∙ ap (λ us. put us x.rest left) (last_left x.ranges level r h at)

first_begins : (us : List ClassBytesRange) (level : ℕ) (r : ClassBytesRange) → level + 1 < length us → r ≡ get_or us level r →
    begins_with (byte_range r) (drop level (map byte_range us)) ≡ true
first_begins us level r h at =
    begins_there (byte_range r) us level r h
    ∙ ap (λ (x : ClassBytesRange). nat_eq x.start r.start && nat_eq x.end r.end) (sym at)
    ∙ and_from _ _ (eq-eqb r.start r.start refl) (eq-eqb r.end r.end refl)

-- the group has a sequence
pub group_some : (level n : ℕ) (xs : List code_sequence.Sequence) (x : code_sequence.Sequence) (r : ClassBytesRange) → 0 < length xs → x ≡ get_or xs 0 x →
    level + 1 < length x.ranges → r ≡ get_or x.ranges level r →
    IsNext (byte_range r) (drop n (all_left_at level (sequences_of xs))) → 0 < n
group_some level n [] x r some is h at next = absurd (omega (arith, some))
group_some level zero (y ∷ ys) x r some is h at next =
    absurd (true≢false (sym (first_begins x.ranges level r h at)
    ∙ ap (λ (z : code_sequence.Sequence). begins_with (byte_range r) (drop level (map byte_range z.ranges))) is ∙ next))
group_some level (suc n) (y ∷ ys) x r some is h at next = omega arith

-- the first sequence has more ranges than so many
pub head_deep : (level count : ℕ) (xs : List code_sequence.Sequence) (x : code_sequence.Sequence) → AllByRecursion (IsDeep level count) (sequences_of xs) →
    0 < length xs → x ≡ get_or xs 0 x → (level < length x.ranges) × (length x.ranges ≤ 4)
head_deep level count [] x each some is = absurd (omega (arith, some))
head_deep level count (y ∷ ys) x each some is =
    subst (λ (z : code_sequence.Sequence). (level < length z.ranges) × (length z.ranges ≤ 4)) (sym is)
    (let l = length-map y.ranges byte_range in let a = each.0.ranges in let b = each.0.few in (omega (arith, a, l), omega (arith, b, l)))

behind_left : (level : ℕ) (ss : List Sequence) → map behind_first (all_left_at level ss) ≡ all_left_at (level + 1) ss
behind_left level [] = refl
behind_left level (s ∷ ss) = ap₂ (λ (us : List Range) (ts : List Sequence). (us, s.1) ∷ ts) (drop_more level 1 s.0) (behind_left level ss)

left_some : (level count : ℕ) (ss : List Sequence) → AllByRecursion (IsDeep level count) ss → AllByRecursion IsSome (all_left_at level ss)
left_some level count [] each = tt
left_some level count (s ∷ ss) each =
    (let l = length-drop level s.0 in let h = each.0.ranges in omega (arith, l, h), left_some level count ss each.1)

begins_length : (r : Range) (us : List Range) (level : ℕ) → begins_with r (drop level us) ≡ true → level + 1 < length us
begins_length r [] zero h = absurd (true≢false (sym h))
begins_length r [] (suc level) h = absurd (true≢false (sym h))
begins_length r (u ∷ []) zero h = absurd (true≢false (sym h))
begins_length r (u ∷ v ∷ us) zero h = omega arith
begins_length r (u ∷ us) (suc level) h = let l = begins_length r us level h in omega (arith, l)

pub group_deep : (level count n : ℕ) (r : Range) (xs : List code_sequence.Sequence) → AllByRecursion (IsDeep level count) (sequences_of xs) →
    AllBegin r (take n (all_left_at level (sequences_of xs))) → AllByRecursion (IsDeep (level + 1) count) (sequences_of (take n xs))
group_deep level count zero r xs each begin = tt
group_deep level count (suc n) r [] each begin = tt
group_deep level count (suc n) r (x ∷ xs) each begin = (
  record { ranges = begins_length r (map byte_range x.ranges) level begin.0; few = each.0.few; rest = each.0.rest },
  group_deep level count n r xs each.1 begin.1,
)

pub tree_goes : (level count n : ℕ) (xs : List code_sequence.Sequence) (r : Range) → 0 < n → 0 < length xs →
    AllByRecursion (IsDeep level count) (sequences_of xs) → AllBegin r (take n (all_left_at level (sequences_of xs))) →
    IsNext r (drop n (all_left_at level (sequences_of xs))) →
    tree_of (all_left_at level (sequences_of xs))
    ≡ goes r.0 r.1 (tree_of (all_left_at (level + 1) (sequences_of (take n xs)))) (tree_of (all_left_at level (sequences_of (drop n xs))))
tree_goes level count n xs r some more deep begin next =
    let ss = sequences_of xs in
    let all = all_left_at level ss in
    let group : map behind_first (take n all) ≡ all_left_at (level + 1) (sequences_of (take n xs)) =
    map_take behind_first n all ∙ ap (take n) (behind_left level ss) ∙ sym (map_take (left_at (level + 1)) n ss)
    ∙ ap (map (left_at (level + 1))) (sym (map_take sequence_of n xs)) in
    let others : drop n all ≡ all_left_at level (sequences_of (drop n xs)) =
    sym (map_drop (left_at level) n ss) ∙ ap (map (left_at level)) (sym (map_drop sequence_of n xs)) in
    ap tree_of (sym (take_drop n all))
    ∙ grouped r (take n all) (drop n all) (first xs some more) begin (each_drop IsSome n all (left_some level count ss deep)) next
    ∙ ap₂ (λ x y. goes r.0 r.1 (tree_of x) (tree_of y)) group others
  where
    first : (xs : List code_sequence.Sequence) → 0 < n → 0 < length xs → 0 < length (take n (all_left_at level (sequences_of xs)))
    first [] a b = absurd (omega (arith, b))
    first (x ∷ xs) a b = from n a
      where
        from : (n : ℕ) → 0 < n → 0 < length (take n (all_left_at level (sequences_of (x ∷ xs))))
        from zero h = absurd (omega (arith, h))
        from (suc n) h = omega arith

-- WHAT IS LAID

pub lays_end : (count tail next a b n start : ℕ) (tree left : Tree) (w0 w1 : List ByteWay) (bs : List code.BytePlace) → tree ≡ ends a b n left →
    ways_of w1 ≡ ways_of w0 ++ ((a, b), rest_of count tail next n) ∷ [] → Lays count tail next tree left start start w0 w1 bs bs
lays_end count tail next a b n start tree left w0 w1 bs e w =
    subst (λ t. Lays count tail next t left start start w0 w1 bs bs) (sym e) (record {
      sized = refl;
      ways_laid = ap (λ ts. ts ++ tree_ways count tail next left start) w
          ∙ append_assoc (ways_of w0) (((a, b), rest_of count tail next n) ∷ []) (tree_ways count tail next left start);
      blocks_laid = refl;
    })

pub lays_goes : (count tail next a b start mid here end : ℕ) (tree below left : Tree) (w0 w1 w : List ByteWay) (b0 b1 b2 : List code.BytePlace) →
    tree ≡ goes a b below left → Lays count tail next below none start mid [] w b0 b1 → here ≡ mid → end ≡ mid + 1 →
    places_of b2 ≡ places_of b1 ++ branch (ways_of w) ∷ [] → ways_of w1 ≡ ways_of w0 ++ ((a, b), here) ∷ [] →
    Lays count tail next tree left start end w0 w1 b0 b2
lays_goes count tail next a b start mid here end tree below left w0 w1 w b0 b1 b2 e inner is after more way =
    let sized = inner.sized in
    let m : mid ≡ start + size below = omega (arith, sized) in
    let f : end ≡ start + size below + 1 = omega (arith, m, after) in
    let inside : ways_of w ≡ tree_ways count tail next below start = sym (append-nil (ways_of w)) ∙ inner.ways_laid in
    let laid : places_of b1 ≡ places_of b0 ++ tree_block count tail next below start = sym (append-nil (places_of b1)) ∙ inner.blocks_laid in
    let block = tree_block count tail next below start in
    let rest = tree_block count tail next left (start + size below + 1) in
    subst (λ t. Lays count tail next t left start end w0 w1 b0 b2) (sym e) (record {
      sized = omega (arith, f);
      ways_laid = ap₂ (λ ts k. ts ++ tree_ways count tail next left k) way f
          ∙ append_assoc (ways_of w0) (((a, b), here) ∷ []) (tree_ways count tail next left (start + size below + 1))
          ∙ ap (λ k. ways_of w0 ++ ((a, b), k) ∷ tree_ways count tail next left (start + size below + 1)) (is ∙ m);
      blocks_laid = ap₂ (λ qs k. qs ++ tree_block count tail next left k) more f
          ∙ append_assoc (places_of b1) (branch (ways_of w) ∷ []) rest
          ∙ ap₂ (λ (qs : List Place) (ts : List (Range × ℕ)). qs ++ branch ts ∷ rest) laid inside
          ∙ append_assoc (places_of b0) block (branch (tree_ways count tail next below start) ∷ rest);
    })

pub lays_more : (count tail next s0 s1 s2 : ℕ) (t0 t1 t2 : Tree) (w0 w1 w2 : List ByteWay) (b0 b1 b2 : List code.BytePlace) →
    Lays count tail next t0 t1 s0 s1 w0 w1 b0 b1 → Lays count tail next t1 t2 s1 s2 w1 w2 b1 b2 → Lays count tail next t0 t2 s0 s2 w0 w2 b0 b2
lays_more count tail next s0 s1 s2 t0 t1 t2 w0 w1 w2 b0 b1 b2 a b = record {
  sized = b.sized ∙ a.sized;
  ways_laid = b.ways_laid ∙ a.ways_laid;
  blocks_laid = b.blocks_laid ∙ a.blocks_laid;
}

pub lays_nothing : (count tail next start : ℕ) (tree : Tree) (ws : List ByteWay) (bs : List code.BytePlace) → Lays count tail next tree tree start start ws ws bs bs
lays_nothing count tail next start tree ws bs = record { sized = refl; ways_laid = refl; blocks_laid = refl }

-- the tree of the sequences from one on
abbrev pub tree_from : ℕ → ℕ → List code_sequence.Sequence → Tree
tree_from level n xs = tree_of (all_left_at level (sequences_of (drop n xs)))

pub tree_on : (level m n : ℕ) (xs ys : List code_sequence.Sequence) → ys ≡ drop m xs → tree_of (all_left_at level (sequences_of (drop n ys))) ≡ tree_from level (m + n) xs
tree_on level m n xs ys e = ap (λ zs. tree_of (all_left_at level (sequences_of zs))) (ap (drop n) e ∙ drop_more m n xs)

pub tree_over : (level m : ℕ) (xs : List code_sequence.Sequence) → length xs ≤ m → tree_from level m xs ≡ none
tree_over level m xs h = ap (λ zs. tree_of (all_left_at level (sequences_of zs))) (all m xs h)
  where
    all : (m : ℕ) (xs : List code_sequence.Sequence) → length xs ≤ m → drop m xs ≡ []
    all zero [] h = refl
    all zero (x ∷ xs) h = absurd (omega (arith, h))
    all (suc m) [] h = refl
    all (suc m) (x ∷ xs) h = all m xs (omega (arith, h))

-- what is left of them has room
pub room_left : (count tail next level m start at most : ℕ) (xs ys : List code_sequence.Sequence) (w0 w1 : List ByteWay) (b0 b1 : List code.BytePlace) → ys ≡ drop m xs →
    Lays count tail next (tree_of (all_left_at level (sequences_of xs))) (tree_from level m xs) start at w0 w1 b0 b1 →
    start + size (tree_of (all_left_at level (sequences_of xs))) < most → at + size (tree_of (all_left_at level (sequences_of ys))) < most
room_left count tail next level m start at most xs ys w0 w1 b0 b1 e laid room =
    let s = laid.sized in
    let f : size (tree_of (all_left_at level (sequences_of ys))) ≡ size (tree_from level m xs) = ap (λ zs. size (tree_of (all_left_at level (sequences_of zs)))) e in
    omega (arith, s, f, room)
