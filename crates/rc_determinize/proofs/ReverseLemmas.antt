-- The edges of a program, by the places to which they lead.
use Rattle.std.proofs.Common.{◌≡◌, ◌≢◌, ℕ, zero, suc, ◌+◌, ◌<◌, ◌≤◌, ◌⊎◌, ◌↔◌, List, [], ◌∷◌, ◌++◌, map, length, drop, Some, Bool, true, false, true≢false, nat_eq, nat_le, ◌&&◌, ◌||◌, if◌then◌else◌, slice_set, get_or, inl, inr, ⊎_elim, sym, subst, ap, ◌∙◌, refl, arith, eqb-true, eq-eqb, ne_eqb}
use Rattle.std.proofs.lemmas.Bool.{cases_lt, cases_eq, cases_Bool}
use Rattle.std.proofs.lemmas.List.{append-nil, get_or-map}
use Rattle.rc_pattern.specs.Re.{Range}
use Rattle.rc_pattern.specs.declared.hir.Look.{Look}
use Rattle.rc_program.specs.Program.{Place, choice, byte, branch, scalar, guard, slot, accept, place_at, Way, stays, reads, ways_out, in_ranges, branch_ways}
use Rattle.rc_program.proofs.WayLemmas.{past_places}
use Rattle.rc_determinize.specs.declared.sides.Seen.{Seen}
use Rattle.rc_determinize.specs.declared.backward.Over.{Over}
use Rattle.rc_determinize.specs.declared.backward.Over.TheVariants.{Nothing, Where, Within}
use Rattle.rc_determinize.specs.declared.backward.Source.{Source}
use Rattle.rc_determinize.specs.declared.backward.Reversed.{Reversed}
use Rattle.rc_determinize.specs.Sides.{holds_by}
use Rattle.rc_utf8.specs.Laws.{IsBytePlace}
use Rattle.rc_determinize.specs.Steps.{HasPlace, HasWay}
use Rattle.rc_determinize.specs.Reversed.{passes, reads_over, sources, into_at, choice_edges, range_edges, branch_edges, edges_from, all_edges, IsReversed}
use Rattle.rc_determinize.proofs.MachineLemmas.{has_parts, has_left, has_right}
use Rattle.rc_determinize.proofs.GatherLemmas.{way_stay, way_read}

-- LISTS

pub drop_at : {A : Type 0} (xs : List A) (i : ℕ) (d : A) → i < length xs → drop i xs ≡ get_or xs i d ∷ drop (suc i) xs
drop_at [] i d h = absurd (omega (arith, h))
drop_at (x ∷ xs) zero d h = refl
drop_at (x ∷ xs) (suc i) d h = drop_at xs i d (omega (arith, h))

pub drop_all : {A : Type 0} (xs : List A) (i : ℕ) → length xs ≤ i → drop i xs ≡ []
drop_all [] zero h = refl
drop_all [] (suc i) h = refl
drop_all (x ∷ xs) zero h = absurd (omega (arith, h))
drop_all (x ∷ xs) (suc i) h = drop_all xs i (omega (arith, h))

-- one of the lists is replaced
replaced_same : {A : Type 0} (f : A → List Source) (vs : List A) (to : ℕ) (v : A) → to < length vs → get_or (map f (slice_set vs to v)) to [] ≡ f v
replaced_same f [] to v h = absurd (omega (arith, h))
replaced_same f (x ∷ xs) zero v h = refl
replaced_same f (x ∷ xs) (suc to) v h = replaced_same f xs to v (omega (arith, h))

replaced_other : {A : Type 0} (f : A → List Source) (vs : List A) (to p : ℕ) (v : A) → to ≢ p →
    get_or (map f (slice_set vs to v)) p [] ≡ get_or (map f vs) p []
replaced_other f [] to p v ne = refl
replaced_other f (x ∷ xs) zero zero v ne = absurd (ne refl)
replaced_other f (x ∷ xs) zero (suc p) v ne = refl
replaced_other f (x ∷ xs) (suc to) zero v ne = refl
replaced_other f (x ∷ xs) (suc to) (suc p) v ne = replaced_other f xs to p v (λ e. ne (ap suc e))

pub replaced : {A : Type 0} (f : A → List Source) (vs : List A) (to p : ℕ) (v : A) → to < length vs →
    get_or (map f (slice_set vs to v)) p [] ≡ (if nat_eq to p then f v else get_or (map f vs) p [])
replaced f vs to p v h =
    ⊎_elim
    (λ e. rw (eq-eqb to p e) (ap (λ k. get_or (map f (slice_set vs to v)) k []) (sym e) ∙ replaced_same f vs to v h))
    (λ ne. rw (ne_eqb to p ne) (replaced_other f vs to p v ne))
    (cases_eq to p)

pub none_pushed : (xs : List (List Source)) → ((p : ℕ) → get_or xs p [] ≡ []) → (p : ℕ) → get_or (xs ++ [] ∷ []) p [] ≡ []
none_pushed [] none zero = refl
none_pushed [] none (suc p) = refl
none_pushed (x ∷ xs) none zero = none 0
none_pushed (x ∷ xs) none (suc p) = none_pushed xs (λ k. none (suc k)) p

-- an edge is kept
pub kept_one : {A : Type 0} (f : A → List Source) (vs : List A) (to : ℕ) (old v : A) (e : Source) → to < length vs → old ≡ get_or vs to old →
    f v ≡ f old ++ e ∷ [] → (p : ℕ) → get_or (map f (slice_set vs to v)) p [] ≡ get_or (map f vs) p [] ++ (if nat_eq to p then e ∷ [] else [])
kept_one f vs to old v e h was pushed p =
    replaced f vs to p v h
    ∙ ⊎_elim
    (λ t. let same : to ≡ p = eqb-true to p t in
    rw t (pushed ∙ ap (λ l. l ++ e ∷ []) (ap f was ∙ sym (get_or-map f vs to old [] h) ∙ ap (λ k. get_or (map f vs) k []) same)))
    (λ n. rw n (sym (append-nil (get_or (map f vs) p []))))
    (cases_Bool (nat_eq to p))

-- SOURCES

pub sources_append : (holds : Over → Bool) (xs ys : List Source) → sources holds (xs ++ ys) ≡ sources holds xs ++ sources holds ys
sources_append holds [] ys = refl
sources_append holds (x ∷ xs) ys = both (holds x.over) (sources_append holds xs ys)
  where
    both : (v : Bool) → sources holds (xs ++ ys) ≡ sources holds xs ++ sources holds ys →
        (if v then x.from ∷ sources holds (xs ++ ys) else sources holds (xs ++ ys)) ≡ (if v then x.from ∷ sources holds xs else sources holds xs) ++ sources holds ys
    both true h = ap (λ l. x.from ∷ l) h
    both false h = h

in_if : (v : Bool) (x q : ℕ) (rest : List ℕ) → HasPlace q (if v then x ∷ rest else rest) → ((v ≡ true) × (x ≡ q)) ⊎ HasPlace q rest
in_if true x q rest h = ⊎_elim (λ e. inl (refl, e)) (λ z. inr z) h
in_if false x q rest h = inr h

to_if : (v : Bool) (x q : ℕ) (rest : List ℕ) → ((v ≡ true) × (x ≡ q)) ⊎ HasPlace q rest → HasPlace q (if v then x ∷ rest else rest)
to_if true x q rest h = ⊎_elim (λ e. inl e.1) (λ z. inr z) h
to_if false x q rest h = ⊎_elim (λ e. absurd (true≢false (sym e.0))) (λ z. z) h

-- a source of `if t then e ∷ es else es`
from_kept : (holds : Over → Bool) (t : Bool) (e : Source) (es : List Source) (q : ℕ) → HasPlace q (sources holds (if t then e ∷ es else es)) →
    ((t ≡ true) × (holds e.over ≡ true) × (e.from ≡ q)) ⊎ HasPlace q (sources holds es)
from_kept holds true e es q h = ⊎_elim (λ x. inl (refl, x.0, x.1)) (λ z. inr z) (in_if (holds e.over) e.from q (sources holds es) h)
from_kept holds false e es q h = inr h

to_kept : (holds : Over → Bool) (t : Bool) (e : Source) (es : List Source) (q : ℕ) →
    ((t ≡ true) × (holds e.over ≡ true) × (e.from ≡ q)) ⊎ HasPlace q (sources holds es) → HasPlace q (sources holds (if t then e ∷ es else es))
to_kept holds true e es q h = to_if (holds e.over) e.from q (sources holds es) (⊎_elim (λ x. inl (x.1, x.2)) (λ z. inr z) h)
to_kept holds false e es q h = ⊎_elim (λ x. absurd (true≢false (sym x.0))) (λ z. z) h

-- each edge of a place begins there
choice_begin : (holds : Over → Bool) (p i : ℕ) (ns : List ℕ) (q : ℕ) → HasPlace q (sources holds (choice_edges p i ns)) → q ≡ i
choice_begin holds p i [] q h = absurd h
choice_begin holds p i (n ∷ ns) q h =
    ⊎_elim (λ x. sym x.2) (choice_begin holds p i ns q)
    (from_kept holds (nat_eq n p) (record { from = i; over = Nothing }) (choice_edges p i ns) q h)

range_begin : (holds : Over → Bool) (p i n : ℕ) (rs : List Range) (q : ℕ) → HasPlace q (sources holds (range_edges p i n rs)) → q ≡ i
range_begin holds p i n [] q h = absurd h
range_begin holds p i n (r ∷ rs) q h =
    ⊎_elim (λ x. sym x.2) (range_begin holds p i n rs q)
    (from_kept holds (nat_eq n p) (record { from = i; over = Within r.0 r.1 }) (range_edges p i n rs) q h)

branch_begin : (holds : Over → Bool) (p i : ℕ) (ts : List (Range × ℕ)) (q : ℕ) → HasPlace q (sources holds (branch_edges p i ts)) → q ≡ i
branch_begin holds p i [] q h = absurd h
branch_begin holds p i (t ∷ ts) q h =
    ⊎_elim (λ x. sym x.2) (branch_begin holds p i ts q)
    (from_kept holds (nat_eq t.1 p) (record { from = i; over = Within t.0.0 t.0.1 }) (branch_edges p i ts) q h)

begin_there : (holds : Over → Bool) (p i : ℕ) (place : Place) (q : ℕ) → HasPlace q (sources holds (edges_from p i place)) → q ≡ i
begin_there holds p i (choice ns) q h = choice_begin holds p i ns q h
begin_there holds p i (byte rs n) q h = range_begin holds p i n rs q h
begin_there holds p i (branch ts) q h = branch_begin holds p i ts q h
begin_there holds p i (scalar rs n) q h = absurd h
begin_there holds p i (guard l n) q h =
    ⊎_elim (λ x. sym x.2) (λ never. absurd never) (from_kept holds (nat_eq n p) (record { from = i; over = Where l }) [] q h)
begin_there holds p i (slot k n) q h =
    ⊎_elim (λ x. sym x.2) (λ never. absurd never) (from_kept holds (nat_eq n p) (record { from = i; over = Nothing }) [] q h)
begin_there holds p i (accept k) q h = absurd h

-- of all places

sources_all : (holds : Over → Bool) (p i : ℕ) (places : List Place) (q : ℕ) → HasPlace q (sources holds (all_edges p i places)) →
    (k : ℕ) × (q ≡ i + k) × (k < length places) × HasPlace q (sources holds (edges_from p q (place_at places k)))
sources_all holds p i [] q h = absurd h
sources_all holds p i (x ∷ xs) q h =
    ⊎_elim
    (λ a. let e = begin_there holds p i x q a in (0, omega (arith, e), omega arith, subst (λ n. HasPlace q (sources holds (edges_from p n x))) (sym e) a))
    (λ b. let r = sources_all holds p (i + 1) xs q b in let e = r.1 in let l = r.2 in (suc r.0, omega (arith, e), omega (arith, l), r.3))
    (has_parts q (sources holds (edges_from p i x)) _ (subst (λ l. HasPlace q l) (sources_append holds (edges_from p i x) (all_edges p (i + 1) xs)) h))

all_sources : (holds : Over → Bool) (p i : ℕ) (places : List Place) (k q : ℕ) → q ≡ i + k → k < length places →
    HasPlace q (sources holds (edges_from p q (place_at places k))) → HasPlace q (sources holds (all_edges p i places))
all_sources holds p i [] k q e lt h = absurd (omega (arith, lt))
all_sources holds p i (x ∷ xs) zero q e lt h =
    let f : q ≡ i = omega (arith, e) in
    subst (λ l. HasPlace q l) (sym (sources_append holds (edges_from p i x) (all_edges p (i + 1) xs)))
    (has_left q (sources holds (edges_from p i x)) _ (subst (λ n. HasPlace q (sources holds (edges_from p n x))) f h))
all_sources holds p i (x ∷ xs) (suc k) q e lt h =
    subst (λ l. HasPlace q l) (sym (sources_append holds (edges_from p i x) (all_edges p (i + 1) xs)))
    (has_right q (sources holds (edges_from p i x)) _ (all_sources holds p (i + 1) xs k q (omega (arith, e)) (omega (arith, lt)) h))

-- every edge begins at a place
abbrev every : Over → Bool
every over = true

every_source : (es : List Source) → map (λ (e : Source). e.from) es ≡ sources every es
every_source [] = refl
every_source (e ∷ es) = ap (λ l. e.from ∷ l) (every_source es)

-- WHAT ONE PLACE HAS

choice_still : (behind ahead : Seen) (p i : ℕ) (ns : List ℕ) → HasPlace i (sources (passes behind ahead) (choice_edges p i ns)) ↔ HasPlace p ns
choice_still b a p i [] = ((λ h. h), (λ h. h))
choice_still b a p i (n ∷ ns) =
    let r = choice_still b a p i ns in (
      (λ h. ⊎_elim (λ x. inl (eqb-true n p x.0)) (λ z. inr (r.0 z))
          (from_kept (passes b a) (nat_eq n p) (record { from = i; over = Nothing }) (choice_edges p i ns) i h)),
      (λ h. to_kept (passes b a) (nat_eq n p) (record { from = i; over = Nothing }) (choice_edges p i ns) i
          (⊎_elim (λ e. inl (eq-eqb n p e, refl, refl)) (λ z. inr (r.1 z)) h)),
    )

range_still : (behind ahead : Seen) (p i n : ℕ) (rs : List Range) → ¬ HasPlace i (sources (passes behind ahead) (range_edges p i n rs))
range_still b a p i n [] h = h
range_still b a p i n (r ∷ rs) h =
    ⊎_elim (λ x. true≢false (sym x.1)) (range_still b a p i n rs)
    (from_kept (passes b a) (nat_eq n p) (record { from = i; over = Within r.0 r.1 }) (range_edges p i n rs) i h)

branch_still : (behind ahead : Seen) (p i : ℕ) (ts : List (Range × ℕ)) → ¬ HasPlace i (sources (passes behind ahead) (branch_edges p i ts))
branch_still b a p i [] h = h
branch_still b a p i (t ∷ ts) h =
    ⊎_elim (λ x. true≢false (sym x.1)) (branch_still b a p i ts)
    (from_kept (passes b a) (nat_eq t.1 p) (record { from = i; over = Within t.0.0 t.0.1 }) (branch_edges p i ts) i h)

choice_ways : (p : ℕ) (ns : List ℕ) → HasPlace p ns ↔ HasWay (stays p) (map stays ns)
choice_ways p [] = ((λ h. h), (λ h. h))
choice_ways p (n ∷ ns) =
    let r = choice_ways p ns in (
      (λ h. ⊎_elim (λ e. inl (ap (λ x. stays x) e)) (λ z. inr (r.0 z)) h),
      (λ h. ⊎_elim (λ e. ⊎_elim (λ x. inl x) (λ never. absurd never) (way_stay p (stays n ∷ []) (inl e))) (λ z. inr (r.1 z)) h),
    )

if_way : (v : Bool) (n p : ℕ) → HasWay (stays p) (if v then stays n ∷ [] else []) ↔ ((v ≡ true) × (n ≡ p))
if_way true n p =
    ((λ h. (refl, ⊎_elim (λ x. x) (λ never. absurd never) (way_stay p (stays n ∷ []) h))), (λ h. inl (ap (λ x. stays x) h.1)))
if_way false n p = ((λ h. absurd h), (λ h. absurd (true≢false (sym h.0))))

still_of : (behind ahead : Seen) (p i : ℕ) (place : Place) → IsBytePlace place →
    HasPlace i (sources (passes behind ahead) (edges_from p i place)) ↔ HasWay (stays p) (ways_out (holds_by behind ahead) [] place)
still_of b a p i (choice ns) k =
    let r = choice_still b a p i ns in let w = choice_ways p ns in ((λ h. w.0 (r.0 h)), (λ h. r.1 (w.1 h)))
still_of b a p i (byte rs n) k = ((λ h. absurd (range_still b a p i n rs h)), (λ h. absurd h))
still_of b a p i (branch ts) k = ((λ h. absurd (branch_still b a p i ts h)), (λ h. absurd h))
still_of b a p i (scalar rs n) k = absurd k
still_of b a p i (guard l n) k =
    let w = if_way (holds_by b a l) n p in (
      (λ h. ⊎_elim (λ x. w.1 (x.1, eqb-true n p x.0)) (λ never. absurd never) (from_kept (passes b a) (nat_eq n p) (record { from = i; over = Where l }) [] i h)),
      (λ h. let x = w.0 h in to_kept (passes b a) (nat_eq n p) (record { from = i; over = Where l }) [] i (inl (eq-eqb n p x.1, x.0, refl))),
    )
still_of b a p i (slot s n) k = (
  (λ h. ⊎_elim (λ x. inl (ap (λ y. stays y) (eqb-true n p x.0))) (λ never. absurd never)
      (from_kept (passes b a) (nat_eq n p) (record { from = i; over = Nothing }) [] i h)),
  (λ h. to_kept (passes b a) (nat_eq n p) (record { from = i; over = Nothing }) [] i
      (inl (eq-eqb n p (⊎_elim (λ x. x) (λ never. absurd never) (way_stay p (stays n ∷ []) h)), refl, refl))),
)
still_of b a p i (accept q) k = ((λ h. absurd h), (λ h. absurd h))

choice_reading : (c p i : ℕ) (ns : List ℕ) → ¬ HasPlace i (sources (reads_over (Some c)) (choice_edges p i ns))
choice_reading c p i [] h = h
choice_reading c p i (n ∷ ns) h =
    ⊎_elim (λ x. true≢false (sym x.1)) (choice_reading c p i ns)
    (from_kept (reads_over (Some c)) (nat_eq n p) (record { from = i; over = Nothing }) (choice_edges p i ns) i h)

no_reads : (p : ℕ) (ns : List ℕ) → ¬ HasWay (reads 1 p) (map stays ns)
no_reads p [] h = h
no_reads p (n ∷ ns) h = ⊎_elim (λ e. way_read 1 p (stays n ∷ []) (inl e)) (no_reads p ns) h

either_true : (x y : Bool) → (x || y) ≡ true → (x ≡ true) ⊎ (y ≡ true)
either_true true y e = inl refl
either_true false y e = inr e

true_either : (x y : Bool) → (x ≡ true) ⊎ (y ≡ true) → (x || y) ≡ true
true_either true y h = refl
true_either false y h = ⊎_elim (λ e. absurd (true≢false (sym e))) (λ e. e) h

range_reading : (c p i n : ℕ) (rs : List Range) →
    HasPlace i (sources (reads_over (Some c)) (range_edges p i n rs)) ↔ ((in_ranges rs c ≡ true) × (n ≡ p))
range_reading c p i n [] = ((λ h. absurd h), (λ h. absurd (true≢false (sym h.0))))
range_reading c p i n (r ∷ rs) =
    let t = range_reading c p i n rs in (
      (λ h. ⊎_elim (λ x. (true_either _ _ (inl x.1), eqb-true n p x.0)) (λ z. let u = t.0 z in (true_either _ _ (inr u.0), u.1))
          (from_kept (reads_over (Some c)) (nat_eq n p) (record { from = i; over = Within r.0 r.1 }) (range_edges p i n rs) i h)),
      (λ h. to_kept (reads_over (Some c)) (nat_eq n p) (record { from = i; over = Within r.0 r.1 }) (range_edges p i n rs) i
          (⊎_elim (λ e. inl (eq-eqb n p h.1, e, refl)) (λ e. inr (t.1 (e, h.1))) (either_true _ _ h.0))),
    )

if_read : (v : Bool) (n p : ℕ) (rest : List Way) → HasWay (reads 1 p) (if v then reads 1 n ∷ rest else rest) ↔ (((v ≡ true) × (n ≡ p)) ⊎ HasWay (reads 1 p) rest)
if_read true n p rest = (
  (λ h. ⊎_elim (λ e. inl (refl, ⊎_elim (λ x. x) (λ never. absurd never) (way_read 1 p (reads 1 n ∷ []) (inl e)))) (λ z. inr z) h),
  (λ h. ⊎_elim (λ x. inl (ap (λ y. reads 1 y) x.1)) (λ z. inr z) h),
)
if_read false n p rest = ((λ h. inr h), (λ h. ⊎_elim (λ x. absurd (true≢false (sym x.0))) (λ z. z) h))

branch_reading : (c p i : ℕ) (ts : List (Range × ℕ)) →
    HasPlace i (sources (reads_over (Some c)) (branch_edges p i ts)) ↔ HasWay (reads 1 p) (branch_ways c ts)
branch_reading c p i [] = ((λ h. h), (λ h. h))
branch_reading c p i (t ∷ ts) =
    let r = branch_reading c p i ts in
    let w = if_read (nat_le t.0.0 c && nat_le c t.0.1) t.1 p (branch_ways c ts) in (
      (λ h. ⊎_elim (λ x. w.1 (inl (x.1, eqb-true t.1 p x.0))) (λ z. w.1 (inr (r.0 z)))
          (from_kept (reads_over (Some c)) (nat_eq t.1 p) (record { from = i; over = Within t.0.0 t.0.1 }) (branch_edges p i ts) i h)),
      (λ h. to_kept (reads_over (Some c)) (nat_eq t.1 p) (record { from = i; over = Within t.0.0 t.0.1 }) (branch_edges p i ts) i
          (⊎_elim (λ x. inl (eq-eqb t.1 p x.1, x.0, refl)) (λ z. inr (r.1 z)) (w.0 h))),
    )

reading_of : (c p i : ℕ) (place : Place) → IsBytePlace place →
    HasPlace i (sources (reads_over (Some c)) (edges_from p i place)) ↔ HasWay (reads 1 p) (ways_out (λ (l : Look). false) (c ∷ []) place)
reading_of c p i (choice ns) k = ((λ h. absurd (choice_reading c p i ns h)), (λ h. absurd (no_reads p ns h)))
reading_of c p i (byte rs n) k =
    let r = range_reading c p i n rs in let w = if_read (in_ranges rs c) n p [] in
    ((λ h. w.1 (inl (r.0 h))), (λ h. ⊎_elim (λ x. r.1 x) (λ never. absurd never) (w.0 h)))
reading_of c p i (branch ts) k = branch_reading c p i ts
reading_of c p i (scalar rs n) k = absurd k
reading_of c p i (guard l n) k = (
  (λ h. ⊎_elim (λ x. absurd (true≢false (sym x.1))) (λ never. absurd never)
      (from_kept (reads_over (Some c)) (nat_eq n p) (record { from = i; over = Where l }) [] i h)),
  (λ h. absurd h),
)
reading_of c p i (slot s n) k = (
  (λ h. ⊎_elim (λ x. absurd (true≢false (sym x.1))) (λ never. absurd never)
      (from_kept (reads_over (Some c)) (nat_eq n p) (record { from = i; over = Nothing }) [] i h)),
  (λ h. absurd (way_read 1 p (stays n ∷ []) h)),
)
reading_of c p i (accept q) k = ((λ h. absurd h), (λ h. absurd h))

-- THE EDGES OF ALL PLACES ARE THE PROGRAM'S
pub all_are_reversed : (places : List Place) (r : Reversed) → ((q : ℕ) → IsBytePlace (place_at places q)) → length r.into.items ≡ length places →
    ((p : ℕ) → into_at r p ≡ all_edges p 0 places) → IsReversed places r
all_are_reversed places r by_bytes size all = record {
  size = size;
  below = λ p q h. let s = sources_all every p 0 places q (subst (λ l. HasPlace q l) (ap (λ es. map (λ (e : Source). e.from) es) (all p) ∙ every_source (all_edges p 0 places)) h) in
      let e = s.1 in let l = s.2 in omega (arith, e, l);
  still = λ b a q p. (
    (λ h. let s = sources_all (passes b a) p 0 places q (subst (λ es. HasPlace q (sources (passes b a) es)) (all p) h) in
        let e : s.0 ≡ q = let f = s.1 in omega (arith, f) in
        (still_of b a p q (place_at places q) (by_bytes q)).0 (subst (λ k. HasPlace q (sources (passes b a) (edges_from p q (place_at places k)))) e s.3)),
    (λ h. subst (λ es. HasPlace q (sources (passes b a) es)) (sym (all p))
        (⊎_elim (λ lt. all_sources (passes b a) p 0 places q q (omega arith) lt ((still_of b a p q (place_at places q) (by_bytes q)).1 h))
        (λ ge. absurd (subst (λ k. HasWay (stays p) (ways_out (holds_by b a) [] k)) (past_places places q ge) h)) (cases_lt q (length places)))),
  );
  reading = λ c q p. (
    (λ h. let s = sources_all (reads_over (Some c)) p 0 places q (subst (λ es. HasPlace q (sources (reads_over (Some c)) es)) (all p) h) in
        let e : s.0 ≡ q = let f = s.1 in omega (arith, f) in
        (reading_of c p q (place_at places q) (by_bytes q)).0 (subst (λ k. HasPlace q (sources (reads_over (Some c)) (edges_from p q (place_at places k)))) e s.3)),
    (λ h. subst (λ es. HasPlace q (sources (reads_over (Some c)) es)) (sym (all p))
        (⊎_elim (λ lt. all_sources (reads_over (Some c)) p 0 places q q (omega arith) lt ((reading_of c p q (place_at places q) (by_bytes q)).1 h))
        (λ ge. absurd (subst (λ k. HasWay (reads 1 p) (ways_out (λ (l : Look). false) (c ∷ []) k)) (past_places places q ge) h)) (cases_lt q (length places)))),
  );
}
