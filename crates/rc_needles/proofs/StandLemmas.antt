-- The first of the needles that stands at a place.
use Rattle.std.proofs.Common.{◌≡◌, ℕ, zero, suc, ◌+◌, ◌<◌, ◌≤◌, List, [], ◌∷◌, length, Bool, true, false, Some, None, sym, ap, subst, ◌∙◌, refl, arith, inl, inr, nat_le, slice_get, slice_range, get_or, Vec}
use Rattle.std.specs.Prelude.{bytes_eq}
use Rattle.std.proofs.lemmas.Bool.{cases_lt}
use Rattle.std.proofs.lemmas.Bool.Decides.{nat_tests}
use Rattle.std.proofs.lemmas.List.{get_or-map}
use Rattle.std.proofs.lemmas.Slice.Eq.{bytes_eq-Decides}
use Rattle.rc_text.proofs.Ranges.{slice_get-slice_range}
use Rattle.rc_needles.specs.declared.hit.Hit.{Hit}
use Rattle.rc_needles.specs.Needles.{stands_within, first_from, needle_at}
use Rattle.rc_needles.specs.Tables.{needles_in, numbered, BeginsWithByte, IsNextWith, AreSome}

-- what it is to stand, as two facts
pub stands_parts : (content : List ℕ) (hi i : ℕ) (needle : List ℕ) → stands_within content hi i needle ≡ true →
    (i + length needle ≤ hi) × (slice_range content i (i + length needle) ≡ needle)
stands_parts content hi i needle e =
    let a : nat_le (i + length needle) hi ≡ true = grind (arith, nat_tests) in
    let b : bytes_eq (slice_range content i (i + length needle)) needle ≡ true = grind (arith, nat_tests) in
    (grind (arith, nat_tests), (bytes_eq-Decides (slice_range content i (i + length needle)) needle).0 b)

pub stands_from : (content : List ℕ) (hi i : ℕ) (needle : List ℕ) → i + length needle ≤ hi →
    slice_range content i (i + length needle) ≡ needle → stands_within content hi i needle ≡ true
stands_from content hi i needle le e =
    let b : bytes_eq (slice_range content i (i + length needle)) needle ≡ true = (bytes_eq-Decides (slice_range content i (i + length needle)) needle).1 e in
    grind (arith, nat_tests)

pub false_if_not : (b : Bool) → ¬ (b ≡ true) → b ≡ false
false_if_not true never = absurd (never refl)
false_if_not false never = refl

-- a needle that stands begins with the byte there
pub begins_with : (content : List ℕ) (hi i b : ℕ) (needle : List ℕ) → 0 < length needle → slice_get content i ≡ Some b →
    stands_within content hi i needle ≡ true → BeginsWithByte needle b
begins_with content hi i b needle some at e =
    let s = (stands_parts content hi i needle e).1 in
    let n : i + 0 ≡ i = omega arith in
    ap (λ xs. slice_get xs 0) (sym s) ∙ slice_get-slice_range content i (i + length needle) 0 (omega (arith, some))
    ∙ ap (slice_get content) n ∙ at

-- none of the needles below the number stands at i
abbrev pub NoneBelow : List (List ℕ) → List ℕ → ℕ → ℕ → ℕ → Type 0
NoneBelow needles content hi i n = (k : ℕ) → k < n → k < length needles → stands_within content hi i (numbered needles k) ≡ false

-- and none up to the next with that byte
pub none_to_next : (needles : List (List ℕ)) (content : List ℕ) (hi i b from r : ℕ) → AreSome needles → slice_get content i ≡ Some b →
    NoneBelow needles content hi i from → IsNextWith needles b from r → NoneBelow needles content hi i r
none_to_next needles content hi i b from r some at below next k l m =
    elim (cases_lt k from) [
      | inl h ↦ below k h m
      | inr h ↦ false_if_not (stands_within content hi i (numbered needles k))
          (λ e. next.none_between k h l (begins_with content hi i b (numbered needles k) (some k m) at e))
    ]

-- no needle stands
pub none_from : (needles : List (List ℕ)) (content : List ℕ) (hi i n : ℕ) →
    ((k : ℕ) → k < length needles → stands_within content hi i (numbered needles k) ≡ false) → first_from content hi i n needles ≡ None
none_from [] content hi i n h = refl
none_from (w ∷ ws) content hi i n h =
    let e : stands_within content hi i w ≡ false = h 0 (omega arith) in
    rw e (none_from ws content hi i (n + 1) (λ k l. h (suc k) (omega (arith, l))))

pub some_from : (needles : List (List ℕ)) (content : List ℕ) (hi i n k : ℕ) → k < length needles →
    ((j : ℕ) → j < k → stands_within content hi i (numbered needles j) ≡ false) → stands_within content hi i (numbered needles k) ≡ true →
    first_from content hi i n needles ≡ Some (record { start = i; end = i + length (numbered needles k); number = n + k })
some_from [] content hi i n k l h e = absurd (omega arith)
some_from (w ∷ ws) content hi i n zero l h e =
    let z : n ≡ n + 0 = omega arith in
    rw e (ap (λ m. let hit : Hit = record { start = i; end = i + length w; number = m } in Some hit) z)
some_from (w ∷ ws) content hi i n (suc k) l h e =
    let f : stands_within content hi i w ≡ false = h 0 (omega arith) in
    let z : n + 1 + k ≡ n + suc k = omega arith in
    rw f (subst (λ m. first_from content hi i (n + 1) ws ≡ Some (record { start = i; end = i + length (numbered ws k); number = m })) z
    (some_from ws content hi i (n + 1) k (omega (arith, l)) (λ j m. h (suc j) (omega (arith, m))) e))

pub none_here : (needles : List (List ℕ)) (content : List ℕ) (hi i n : ℕ) → length needles ≤ n → NoneBelow needles content hi i n →
    None ≡ needle_at needles content hi i
none_here needles content hi i n l h = sym (none_from needles content hi i 0 (λ k m. h k (omega (arith, l, m)) m))

pub first_here : (needles : List (List ℕ)) (content : List ℕ) (hi i k : ℕ) → k < length needles → NoneBelow needles content hi i k →
    stands_within content hi i (numbered needles k) ≡ true →
    Some (record { start = i; end = i + length (numbered needles k); number = k }) ≡ needle_at needles content hi i
first_here needles content hi i k l h e =
    let z : 0 + k ≡ k = omega arith in
    sym (subst (λ n. needle_at needles content hi i ≡ Some (record { start = i; end = i + length (numbered needles k); number = n })) z
    (some_from needles content hi i 0 k l (λ j m. h j m (omega (arith, l, m))) e))

pub needle_count : {Y : Type 0} (vs : List (Vec ℕ Y)) → length (needles_in vs) ≡ length vs
needle_count [] = refl
needle_count (v ∷ vs) = ap suc (needle_count vs)

-- the needle of a number, read from the vectors
pub numbered_in : {Y : Type 0} (vs : List (Vec ℕ Y)) (k : ℕ) (v : Vec ℕ Y) → k < length vs → v ≡ get_or vs k v → v.items ≡ numbered (needles_in vs) k
numbered_in vs k v l e = ap (λ w. w.items) e ∙ sym (get_or-map (λ w. w.items) vs k v [] l)

-- one more doesn't
pub none_one_more : (needles : List (List ℕ)) (content : List ℕ) (hi i n : ℕ) → NoneBelow needles content hi i n →
    stands_within content hi i (numbered needles n) ≡ false → NoneBelow needles content hi i (n + 1)
none_one_more needles content hi i n below here k l m =
    elim (cases_lt k n) [
      | inl h ↦ below k h m
      | inr h ↦
          let e : n ≡ k = omega arith in subst (λ j. stands_within content hi i (numbered needles j) ≡ false) e here
    ]
