-- A needle read byte by byte.
use Rattle.std.proofs.Common.{◌≡◌, ℕ, zero, suc, ◌+◌, ◌-◌, ◌<◌, ◌≤◌, List, [], ◌∷◌, length, take, drop, Bool, true, false, true≢false, Option, Some, None, sym, ap, ap₂, ◌∙◌, refl, arith, inl, inr, nat_eq, slice_get, slice_range, if◌then◌else◌}
use Rattle.std.proofs.lemmas.Bool.{cases_lt, cases_Bool}
use Rattle.std.proofs.lemmas.Bool.Decides.{nat_tests}
use Rattle.std.proofs.lemmas.Option.{none-some}
use Rattle.rc_needles.specs.Needles.{stands_within}
use Rattle.rc_needles.proofs.StandLemmas.{stands_parts, stands_from, false_if_not}

drop_some : (xs : List ℕ) (k x : ℕ) → slice_get xs k ≡ Some x → drop k xs ≡ x ∷ drop (suc k) xs
drop_some [] k x e = absurd (none-some x e)
drop_some (y ∷ ys) zero x e = cc
drop_some (y ∷ ys) (suc k) x e = drop_some ys k x e

drop_none : (xs : List ℕ) (k : ℕ) → slice_get xs k ≡ None → drop k xs ≡ []
drop_none [] zero e = refl
drop_none [] (suc k) e = refl
drop_none (y ∷ ys) zero e = absurd (none-some y (sym e))
drop_none (y ∷ ys) (suc k) e = drop_none ys k e

take_none : (n : ℕ) (xs : List ℕ) → xs ≡ [] → take n xs ≡ []
take_none zero xs e = refl
take_none (suc n) xs e = ap (take (suc n)) e

-- a range that begins with a byte
pub range_some : (xs : List ℕ) (i b k : ℕ) → slice_get xs i ≡ Some b → i < k → slice_range xs i k ≡ b ∷ slice_range xs (i + 1) k
range_some xs i b k e l =
    let n : k - i ≡ suc (k - (i + 1)) = omega arith in
    let m : suc i ≡ i + 1 = omega arith in
    ap (λ z. take z (drop i xs)) n ∙ ap (take (suc (k - (i + 1)))) (drop_some xs i b e) ∙ ap (λ z. b ∷ take (k - (i + 1)) (drop z xs)) m

pub range_none : (xs : List ℕ) (i k : ℕ) → slice_get xs i ≡ None → slice_range xs i k ≡ []
range_none xs i k e = take_none (k - i) (drop i xs) (drop_none xs i e)

pub range_done : (xs : List ℕ) (i k : ℕ) → k ≤ i → slice_range xs i k ≡ []
range_done xs i k l = let n : k - i ≡ 0 = omega arith in ap (λ z. take z (drop i xs)) n

-- the bytes begin with this one
abbrev pub first_is : ℕ → List ℕ → Bool
first_is b [] = false
first_is b (c ∷ cs) = nat_eq c b

-- where a needle that is read from i on ends, if it stands there
abbrev pub reads : List ℕ → ℕ → List ℕ → ℕ → Option ℕ
reads content hi [] i = Some i
reads content hi (b ∷ bs) i = if first_is b (slice_range content i hi) then reads content hi bs (i + 1) else None

-- the same by what stands
abbrev pub end_if : Bool → ℕ → Option ℕ
end_if b j = if b then Some j else None

head_of : (b c : ℕ) (xs ys : List ℕ) → b ∷ xs ≡ c ∷ ys → b ≡ c
head_of b c xs ys e = cc

tail_of : (b c : ℕ) (xs ys : List ℕ) → b ∷ xs ≡ c ∷ ys → xs ≡ ys
tail_of b c xs ys e = cc

same_tests : (a b : Bool) → (a ≡ true → b ≡ true) → (b ≡ true → a ≡ true) → a ≡ b
same_tests true b f g = sym (f refl)
same_tests false b f g = sym (false_if_not b (λ e. true≢false (sym (g e))))

-- one more byte
stands_more : (content : List ℕ) (hi i b : ℕ) (bs : List ℕ) → slice_get content i ≡ Some b → i < hi →
    stands_within content hi (i + 1) bs ≡ stands_within content hi i (b ∷ bs)
stands_more content hi i b bs at l =
    let m : i + 1 + length bs ≡ i + suc (length bs) = omega arith in
    let whole : slice_range content i (i + suc (length bs)) ≡ b ∷ slice_range content (i + 1) (i + suc (length bs)) =
    range_some content i b (i + suc (length bs)) at (omega arith) in
    same_tests (stands_within content hi (i + 1) bs) (stands_within content hi i (b ∷ bs))
    (λ e. let p = stands_parts content hi (i + 1) bs e in
    stands_from content hi i (b ∷ bs) (omega (arith, p.0))
    (whole ∙ ap (λ xs. b ∷ xs) (ap (slice_range content (i + 1)) (sym m) ∙ p.1)))
    (λ e. let p = stands_parts content hi i (b ∷ bs) e in
    stands_from content hi (i + 1) bs (omega (arith, p.0))
    (ap (slice_range content (i + 1)) m ∙ tail_of b b (slice_range content (i + 1) (i + suc (length bs))) bs (sym whole ∙ p.1)))

-- a needle that stands begins with the byte ahead
stands_first : (content : List ℕ) (hi i b : ℕ) (bs : List ℕ) → stands_within content hi i (b ∷ bs) ≡ true →
    (slice_get content i ≡ Some b) × (i < hi)
stands_first content hi i b bs e =
    let p = stands_parts content hi i (b ∷ bs) e in
    let inside : i < i + suc (length bs) = omega arith in (
      by_get (slice_get content i) refl p.1,
      omega (arith, p.0),
    )
  where
    by_get : (o : Option ℕ) → slice_get content i ≡ o → slice_range content i (i + suc (length bs)) ≡ b ∷ bs → slice_get content i ≡ Some b
    by_get None h r = absurd (let z : [] ≡ b ∷ bs = sym (range_none content i (i + suc (length bs)) h) ∙ r in cc)
    by_get (Some c) h r =
        let same : c ≡ b = head_of c b (slice_range content (i + 1) (i + suc (length bs))) bs
        (sym (range_some content i c (i + suc (length bs)) h (omega arith)) ∙ r) in
        h ∙ ap Some same

-- the byte ahead
ahead_first : (content : List ℕ) (hi i b : ℕ) → first_is b (slice_range content i hi) ≡ true → (slice_get content i ≡ Some b) × (i < hi)
ahead_first content hi i b e = by_get (slice_get content i) refl
  where
    by_get : (o : Option ℕ) → slice_get content i ≡ o → (slice_get content i ≡ Some b) × (i < hi)
    by_get None h = absurd (true≢false (sym e ∙ ap (first_is b) (range_none content i hi h)))
    by_get (Some c) h =
        elim (cases_lt i hi) [
          | inl l ↦
              let f : nat_eq c b ≡ true = ap (first_is b) (sym (range_some content i c hi h l)) ∙ e in
              let same : c ≡ b = grind (arith, nat_tests) in (h ∙ ap Some same, l)
          | inr g ↦ absurd (true≢false (sym e ∙ ap (first_is b) (range_done content i hi g)))
        ]

first_ahead : (content : List ℕ) (hi i b : ℕ) → slice_get content i ≡ Some b → i < hi → first_is b (slice_range content i hi) ≡ true
first_ahead content hi i b e l = ap (first_is b) (range_some content i b hi e l) ∙ grind (arith, nat_tests)

-- reading a needle tells whether it stands
pub reads_is : (content : List ℕ) (hi : ℕ) (needle : List ℕ) (i : ℕ) → i ≤ hi →
    reads content hi needle i ≡ end_if (stands_within content hi i needle) (i + length needle)
reads_is content hi [] i l =
    let e : stands_within content hi i [] ≡ true = stands_from content hi i [] (omega (arith, l)) (range_done content i (i + 0) (omega arith)) in
    let z : i ≡ i + 0 = omega arith in
    rw e (ap Some z)
reads_is content hi (b ∷ bs) i l =
    elim (cases_Bool (first_is b (slice_range content i hi))) [
      | inl t ↦
          let p = ahead_first content hi i b t in
          let m : i + 1 + length bs ≡ i + suc (length bs) = omega arith in
          rw t (reads_is content hi bs (i + 1) (omega (arith, p.1))
          ∙ ap₂ end_if (stands_more content hi i b bs p.0 p.1) m)
      | inr f ↦
          let no : stands_within content hi i (b ∷ bs) ≡ false =
          false_if_not (stands_within content hi i (b ∷ bs))
          (λ e. let p = stands_first content hi i b bs e in true≢false (sym (first_ahead content hi i b p.0 p.1) ∙ f)) in
          rw f (ap (λ z. end_if z (i + suc (length bs))) (sym no))
    ]
