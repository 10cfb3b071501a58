-- A table grown from its end.
use Rattle.std.proofs.Common.{◌≡◌, ℕ, ◌+◌, ◌<◌, List, [], ◌∷◌, length, set, sym, ap, subst, ◌∙◌, arith, inl, inr, slice_get, slice_index, max, take, ◌++◌, ap₂, Vec}
use Rattle.std.proofs.lemmas.Bool.{cases_lt, cases_eq}
use Rattle.std.proofs.lemmas.List.{get_or-set_same, get_or-set_other, take_more, map-append}
use Rattle.std.proofs.lemmas.Option.{same_Some}
use Rattle.rc_needles.specs.Tables.{needles_in, numbered, BeginsWithByte, IsNextWith, AreHeads, AreNexts}
use Rattle.rc_needles.specs.Needles.{longest}

-- where there are no more needles
pub no_more : (needles : List (List ℕ)) (b : ℕ) → IsNextWith needles b (length needles) (length needles)
no_more needles b = record {
  low = omega arith;
  high = omega arith;
  begins = λ l. absurd (omega arith);
  none_between = λ k low high. absurd (omega arith);
}

-- one more needle is the next that begins with its byte
next_itself : (needles : List (List ℕ)) (b n : ℕ) → n < length needles → BeginsWithByte (numbered needles n) b → IsNextWith needles b n n
next_itself needles b n l begins = record {
  low = omega arith;
  high = omega arith;
  begins = λ _. begins;
  none_between = λ k low high. absurd (omega arith);
}

-- and makes no difference to the other bytes
next_other : (needles : List (List ℕ)) (b n r : ℕ) → ¬ BeginsWithByte (numbered needles n) b → IsNextWith needles b (n + 1) r → IsNextWith needles b n r
next_other needles b n r other next = record {
  low = omega (arith, next.low);
  high = next.high;
  begins = next.begins;
  none_between = λ k low high. elim (cases_lt n k) [
    | inl h ↦ next.none_between k (omega (arith, h)) high
    | inr h ↦ let e : n ≡ k = omega arith in λ begins. other (subst (λ j. BeginsWithByte (numbered needles j) b) (sym e) begins)
  ];
}

pub one_more_head : (needles : List (List ℕ)) (heads : List ℕ) (n a : ℕ) → length heads ≡ 256 → a < 256 → n < length needles →
    BeginsWithByte (numbered needles n) a → AreHeads needles (n + 1) heads → AreHeads needles n (set heads a n)
one_more_head needles heads n a long small l begins headed b m =
    elim (cases_eq b a) [
      | inl e ↦
          let r : slice_index (set heads a n) b ≡ n = ap (slice_index (set heads a n)) e ∙ get_or-set_same heads a n 0 (omega (arith, long, small)) in
          subst (λ k. IsNextWith needles b n k) (sym r) (subst (λ c. IsNextWith needles c n n) (sym e) (next_itself needles a n l begins))
      | inr ne ↦
          let r : slice_index (set heads a n) b ≡ slice_index heads b = get_or-set_other heads a b n 0 ne in
          subst (λ k. IsNextWith needles b n k) (sym r)
          (next_other needles b n (slice_index heads b) (λ other. ne (same_Some b a (sym other ∙ begins))) (headed b m))
    ]

pub one_more_next : (needles : List (List ℕ)) (heads nexts : List ℕ) (n a : ℕ) → length nexts ≡ length needles → a < 256 → n < length needles →
    BeginsWithByte (numbered needles n) a → AreHeads needles (n + 1) heads → AreNexts needles (n + 1) nexts →
    AreNexts needles n (set nexts n (slice_index heads a))
one_more_next needles heads nexts n a long small l begins headed linked k b low high starts =
    elim (cases_eq k n) [
      | inl e ↦
          let r : slice_index (set nexts n (slice_index heads a)) k ≡ slice_index heads a =
          ap (slice_index (set nexts n (slice_index heads a))) e ∙ get_or-set_same nexts n (slice_index heads a) 0 (omega (arith, long, l)) in
          let s : a ≡ b = same_Some a b (sym begins ∙ ap (λ j. slice_get (numbered needles j) 0) (sym e) ∙ starts) in
          let m : n + 1 ≡ k + 1 = omega arith in
          subst (λ j. IsNextWith needles b (k + 1) j) (sym r)
          (subst (λ c. IsNextWith needles c (k + 1) (slice_index heads a)) s
          (subst (λ j. IsNextWith needles a j (slice_index heads a)) m (headed a small)))
      | inr ne ↦
          let r : slice_index (set nexts n (slice_index heads a)) k ≡ slice_index nexts k = get_or-set_other nexts n k (slice_index heads a) 0 ne in
          subst (λ j. IsNextWith needles b (k + 1) j) (sym r) (linked k b (omega arith) high starts)
    ]

-- one more needle was copied
pub needles_more : {Y : Type 0} (vs : List (Vec ℕ Y)) (v : Vec ℕ Y) (ws : List (List ℕ)) (i : ℕ) → i < length ws → needles_in vs ≡ take i ws →
    v.items ≡ numbered ws i → needles_in (vs ++ v ∷ []) ≡ take (i + 1) ws
needles_more vs v ws i l so_far is =
    map-append (λ w. w.items) vs (v ∷ []) ∙ ap₂ (λ xs x. xs ++ x ∷ []) so_far is ∙ sym (take_more ws i [] l)

-- the longest of one more
longest_more : (ws : List (List ℕ)) (w : List ℕ) → longest (ws ++ w ∷ []) ≡ max (longest ws) (length w)
longest_more [] w = omega arith
longest_more (v ∷ ws) w = let e = longest_more ws w in omega (arith, e)

pub longest_next : (ws : List (List ℕ)) (i : ℕ) → i < length ws → longest (take (i + 1) ws) ≡ max (longest (take i ws)) (length (numbered ws i))
longest_next ws i l = ap longest (take_more ws i [] l) ∙ longest_more (take i ws) (numbered ws i)
