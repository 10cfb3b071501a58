-- The needle that is found, as a function, is the one of the relation.
use Rattle.std.proofs.Common.{◌≡◌, ℕ, zero, suc, ◌+◌, ◌<◌, List, [], ◌∷◌, length, true, false, true≢false, Option, Some, None, sym, ap, ap₂, subst, ◌∙◌, refl, arith, inl, inr, slice_get, slice_range}
use Rattle.std.proofs.lemmas.Bool.{cases_Bool}
use Rattle.std.proofs.lemmas.Option.{none-some, same_Some}
use Rattle.rc_program.specs.Spells.{Stands}
use Rattle.rc_needles.specs.declared.hit.Hit.{Hit}
use Rattle.rc_needles.specs.Needles.{StandsWithin, NoneAt, IsFirstAt, stands_within, first_from, needle_at}
use Rattle.rc_needles.specs.Tables.{numbered}
use Rattle.rc_needles.proofs.StandLemmas.{stands_parts, stands_from, false_if_not, none_from, some_from}
use Rattle.rc_needles.proofs.ReadLemmas.{range_some, range_none, range_done}

pub get_some : (xs : List (List ℕ)) (k : ℕ) (x : List ℕ) → slice_get xs k ≡ Some x → (k < length xs) × (numbered xs k ≡ x)
get_some [] k x e = absurd (none-some x e)
get_some (y ∷ ys) zero x e = (omega arith, same_Some y x e)
get_some (y ∷ ys) (suc k) x e = let r = get_some ys k x e in (omega (arith, r.0), r.1)

pub some_get : (xs : List (List ℕ)) (k : ℕ) → k < length xs → slice_get xs k ≡ Some (numbered xs k)
some_get [] k l = absurd (omega arith)
some_get (y ∷ ys) zero l = refl
some_get (y ∷ ys) (suc k) l = some_get ys k (omega (arith, l))

cons_head : (b c : ℕ) (xs ys : List ℕ) → b ∷ xs ≡ c ∷ ys → b ≡ c
cons_head b c xs ys e = cc

cons_tail : (b c : ℕ) (xs ys : List ℕ) → b ∷ xs ≡ c ∷ ys → xs ≡ ys
cons_tail b c xs ys e = cc

nil_or : (b : ℕ) (xs : List ℕ) → [] ≡ b ∷ xs → ⊥
nil_or b xs e = cc

-- bytes that stand are a range
pub range_of : (content needle : List ℕ) (i j : ℕ) → Stands content needle i j → (j ≡ i + length needle) × (slice_range content i (i + length needle) ≡ needle)
range_of content [] i j h = (omega (arith, h), range_done content i (i + 0) (omega arith))
range_of content (b ∷ bs) i j h =
    let r = range_of content bs (i + 1) j h.1 in
    let m : i + 1 + length bs ≡ i + suc (length bs) = omega arith in
    (omega (arith, r.0), range_some content i b (i + suc (length bs)) h.0 (omega arith) ∙ ap (λ z. b ∷ slice_range content (i + 1) z) (sym m) ∙ ap (λ xs. b ∷ xs) r.1)

pub stand_of : (content needle : List ℕ) (i : ℕ) → slice_range content i (i + length needle) ≡ needle → Stands content needle i (i + length needle)
stand_of content [] i e = omega arith
stand_of content (b ∷ bs) i e = by_get (slice_get content i) refl (λ f. stand_of content bs (i + 1) f)
  where
    by_get : (o : Option ℕ) → slice_get content i ≡ o →
        (slice_range content (i + 1) (i + 1 + length bs) ≡ bs → Stands content bs (i + 1) (i + 1 + length bs)) → (slice_get content i ≡ Some b) × Stands content bs (i + 1) (i + suc (length bs))
    by_get None h more = absurd (nil_or b bs (sym (range_none content i (i + suc (length bs)) h) ∙ e))
    by_get (Some c) h more =
        let whole = range_some content i c (i + suc (length bs)) h (omega arith) in
        let m : i + 1 + length bs ≡ i + suc (length bs) = omega arith in
        let first : c ≡ b = cons_head c b (slice_range content (i + 1) (i + suc (length bs))) bs (sym whole ∙ e) in
        let rest : slice_range content (i + 1) (i + 1 + length bs) ≡ bs =
        ap (slice_range content (i + 1)) m ∙ cons_tail c b (slice_range content (i + 1) (i + suc (length bs))) bs (sym whole ∙ e) in
        (h ∙ ap Some first, subst (λ z. Stands content bs (i + 1) z) m (more rest))

pub within_true : (content needle : List ℕ) (hi i : ℕ) → StandsWithin content hi needle i → stands_within content hi i needle ≡ true
within_true content needle hi i h = stands_from content hi i needle h.0 (range_of content needle i (i + length needle) h.1).1

pub true_within : (content needle : List ℕ) (hi i : ℕ) → stands_within content hi i needle ≡ true → StandsWithin content hi needle i
true_within content needle hi i e =
    let p = stands_parts content hi i needle e in (p.0, stand_of content needle i p.1)

-- what the function finds at a place
record Found (needles : List (List ℕ)) (content : List ℕ) (hi i n : ℕ) (h : Hit) : Type 0 where
  number : ℕ
  there : number < length needles
  stands : stands_within content hi i (numbered needles number) ≡ true
  none_earlier : (j : ℕ) → j < number → stands_within content hi i (numbered needles j) ≡ false
  is : h ≡ (let hit : Hit = record { start = i; end = i + length (numbered needles number); number = n + number } in hit)

from_found : (needles : List (List ℕ)) (content : List ℕ) (hi i n : ℕ) (h : Hit) → first_from content hi i n needles ≡ Some h → Found needles content hi i n h
from_found [] content hi i n h e = absurd (none-some h e)
from_found (w ∷ ws) content hi i n h e =
    let o : Option Hit = Some (record { start = i; end = i + length w; number = n }) in
    let z : n ≡ n + 0 = omega arith in
    elim (cases_Bool (stands_within content hi i w)) [
      | inl t ↦
          let is : o ≡ Some h = rw t at e in
          record {
            number = 0;
            there = omega arith;
            stands = t;
            none_earlier = λ j l. absurd (omega arith);
            is = sym (same_Some _ h is) ∙ ap (λ m. let hit : Hit = record { start = i; end = i + length w; number = m } in hit) z;
          }
      | inr f ↦
          let r = from_found ws content hi i (n + 1) h (rw f at e) in
          let m : n + 1 + r.number ≡ n + suc r.number = omega arith in
          record {
            number = suc r.number;
            there = omega (arith, r.there);
            stands = r.stands;
            none_earlier = λ j l. earlier w ws content hi i r.number f r.none_earlier j l;
            is = r.is ∙ ap (λ k. let hit : Hit = record { start = i; end = i + length (numbered ws r.number); number = k } in hit) m;
          }
    ]
  where
    earlier : (w : List ℕ) (ws : List (List ℕ)) (content : List ℕ) (hi i k : ℕ) → stands_within content hi i w ≡ false →
        ((j : ℕ) → j < k → stands_within content hi i (numbered ws j) ≡ false) →
        (j : ℕ) → j < suc k → stands_within content hi i (numbered (w ∷ ws) j) ≡ false
    earlier w ws content hi i k f h zero l = f
    earlier w ws content hi i k f h (suc j) l = h j (omega (arith, l))

pub first_to : (needles : List (List ℕ)) (content : List ℕ) (hi i : ℕ) (h : Hit) → needle_at needles content hi i ≡ Some h → IsFirstAt needles content hi i h
first_to needles content hi i h e =
    let r = from_found needles content hi i 0 h e in
    let number : h.number ≡ r.number = let k = ap (λ (x : Hit). x.number) r.is in omega (arith, k) in
    record {
      needle = numbered needles r.number;
      is = ap (slice_get needles) number ∙ some_get needles r.number r.there;
      stands = true_within content (numbered needles r.number) hi i r.stands;
      start = ap (λ (x : Hit). x.start) r.is;
      end = ap (λ (x : Hit). x.end) r.is;
      none_earlier = λ k other l g s.
          let p = get_some needles k other g in
          true≢false (sym (within_true content (numbered needles k) hi i (subst (λ w. StandsWithin content hi w i) (sym p.1) s))
          ∙ r.none_earlier k (omega (arith, l, number)));
    }

pub first_of : (needles : List (List ℕ)) (content : List ℕ) (hi i : ℕ) (h : Hit) → IsFirstAt needles content hi i h → needle_at needles content hi i ≡ Some h
first_of needles content hi i h f =
    let p = get_some needles h.number f.needle f.is in
    let z : 0 + h.number ≡ h.number = omega arith in
    let long : i + length (numbered needles h.number) ≡ h.end = ap (λ w. i + length w) p.1 ∙ sym f.end in
    some_from needles content hi i 0 h.number p.0
    (λ j l. false_if_not (stands_within content hi i (numbered needles j))
    (λ e. f.none_earlier j (numbered needles j) l (some_get needles j (omega (arith, l, p.0))) (true_within content (numbered needles j) hi i e)))
    (within_true content (numbered needles h.number) hi i (subst (λ w. StandsWithin content hi w i) (sym p.1) f.stands))
    ∙ ap (λ k. let hit : Hit = record { start = i; end = i + length (numbered needles h.number); number = k } in Some hit) z
    ∙ ap₂ (λ a b. let hit : Hit = record { start = a; end = b; number = h.number } in Some hit) (sym f.start) long

each_false : (w : List ℕ) (ws : List (List ℕ)) (content : List ℕ) (hi i k : ℕ) → stands_within content hi i w ≡ false →
    ((j : ℕ) → j < length ws → stands_within content hi i (numbered ws j) ≡ false) → k < suc (length ws) →
    stands_within content hi i (numbered (w ∷ ws) k) ≡ false
each_false w ws content hi i zero f h l = f
each_false w ws content hi i (suc k) f h l = h k (omega (arith, l))

none_each : (ws : List (List ℕ)) (content : List ℕ) (hi i n : ℕ) → first_from content hi i n ws ≡ None →
    (k : ℕ) → k < length ws → stands_within content hi i (numbered ws k) ≡ false
none_each [] content hi i n e k l = absurd (omega arith)
none_each (w ∷ ws) content hi i n e k l =
    let o : Option Hit = Some (record { start = i; end = i + length w; number = n }) in
    elim (cases_Bool (stands_within content hi i w)) [
      | inl t ↦
          let q : o ≡ None = rw t at e in absurd (none-some _ (sym q))
      | inr f ↦ each_false w ws content hi i k f (none_each ws content hi i (n + 1) (rw f at e)) l
    ]

pub none_to : (needles : List (List ℕ)) (content : List ℕ) (hi i : ℕ) → needle_at needles content hi i ≡ None → NoneAt needles content hi i
none_to needles content hi i e k needle g s =
    let p = get_some needles k needle g in
    true≢false (sym (within_true content (numbered needles k) hi i (subst (λ w. StandsWithin content hi w i) (sym p.1) s))
    ∙ none_each needles content hi i 0 e k p.0)

pub none_of : (needles : List (List ℕ)) (content : List ℕ) (hi i : ℕ) → NoneAt needles content hi i → needle_at needles content hi i ≡ None
none_of needles content hi i h =
    none_from needles content hi i 0
    (λ k l. false_if_not (stands_within content hi i (numbered needles k))
    (λ e. h k (numbered needles k) (some_get needles k l) (true_within content (numbered needles k) hi i e)))
