-- A byte of each class.
use Rattle.std.proofs.Common.{◌≡◌, ◌≢◌, ◌⊎◌, ℕ, zero, suc, ◌+◌, ◌<◌, ◌≤◌, List, [], ◌∷◌, ◌++◌, length, get_or, inl, inr, ⊎_elim, sym, subst, ap, ◌∙◌, refl, arith}
use Rattle.std.proofs.lemmas.Bool.{cases_eq}
use Rattle.std.proofs.lemmas.List.{length-append, get_or_push, get_or_append_left}
use Rattle.rc_dfa.specs.Samples.{IsCounted, AreSamples}

-- of the classes of the bytes below i
pub record AreSamplesSoFar (classes samples : List ℕ) (i : ℕ) : Type 0 where
  pub all : (b : ℕ) → b < i → get_or classes b 0 < length samples
  pub own : (class : ℕ) → class < length samples → (get_or samples class 0 < i) × (get_or classes (get_or samples class 0) 0 ≡ class)
  pub first : i ≡ 0 → length samples ≡ 0
  pub last : (b : ℕ) → b + 1 ≡ i → length samples ≡ get_or classes b 0 + 1
  pub few : length samples ≤ i

pub none_yet : (classes samples : List ℕ) → samples ≡ [] → AreSamplesSoFar classes samples 0
none_yet classes samples e = rw e (record {
  all = λ b h. absurd (omega (arith, h));
  own = λ class h. absurd (omega (arith, h));
  first = λ h. refl;
  last = λ b h. absurd (omega (arith, h));
  few = omega arith;
})

-- the class of the byte i is that of the byte before, or the next one
next_class : (classes samples : List ℕ) (i : ℕ) → IsCounted classes → i < 256 → AreSamplesSoFar classes samples i →
    (get_or classes i 0 ≡ length samples) ⊎ ((get_or classes i 0 < length samples) × (length samples ≡ get_or classes i 0 + 1))
next_class classes samples zero counted lt v =
    let z = counted.0 in let f = v.first refl in inl (omega (arith, z, f))
next_class classes samples (suc i) counted lt v =
    let l = v.last i (omega arith) in
    let e : suc i ≡ i + 1 = omega arith in
    ⊎_elim
    (λ same. let s = subst (λ k. get_or classes k 0 ≡ get_or classes i 0) (sym e) same in inr (omega (arith, l, s), omega (arith, l, s)))
    (λ next. let s = subst (λ k. get_or classes k 0 ≡ get_or classes i 0 + 1) (sym e) next in inl (omega (arith, l, s)))
    (counted.1 i (omega (arith, lt)))

pub one_more : (classes samples samples2 : List ℕ) (i x : ℕ) → x ≡ i → get_or classes i 0 ≡ length samples → samples2 ≡ samples ++ x ∷ [] →
    AreSamplesSoFar classes samples i → AreSamplesSoFar classes samples2 (i + 1)
one_more classes samples samples2 i x is new grown v =
    let size : length (samples ++ x ∷ []) ≡ length samples + 1 = length-append samples (x ∷ []) in
    let few = v.few in
    rw grown (record {
      all = λ b h. ⊎_elim
          (λ same. let c = ap (λ k. get_or classes k 0) same in omega (arith, c, new, size))
          (λ ne. let below = v.all b (omega (arith, h, ne)) in omega (arith, below, size))
          (cases_eq b i);
      own = λ class h. ⊎_elim
          (λ same. let e : get_or (samples ++ x ∷ []) class 0 ≡ i = ap (λ k. get_or (samples ++ x ∷ []) k 0) same ∙ get_or_push samples x 0 (length samples) refl ∙ is in
          (omega (arith, e), ap (λ k. get_or classes k 0) e ∙ new ∙ sym same))
          (λ ne. let lt : class < length samples = omega (arith, h, size, ne) in
          let o = v.own class lt in
          let e = get_or_append_left samples (x ∷ []) 0 class lt in
          let below = o.0 in
          (omega (arith, below, e), ap (λ k. get_or classes k 0) e ∙ o.1))
          (cases_eq class (length samples));
      first = λ h. absurd (omega (arith, h));
      last = λ b h. let c : get_or classes b 0 ≡ get_or classes i 0 = ap (λ k. get_or classes k 0) (omega (arith, h)) in omega (arith, c, new, size);
      few = omega (arith, few, size);
    })

pub no_more : (classes samples : List ℕ) (i : ℕ) → IsCounted classes → i < 256 → get_or classes i 0 ≢ length samples →
    AreSamplesSoFar classes samples i → AreSamplesSoFar classes samples (i + 1)
no_more classes samples i counted lt old v =
    ⊎_elim
    (λ new. absurd (old new))
    (λ same. let below = same.0 in let size = same.1 in record {
      all = λ b h. ⊎_elim
          (λ e. let c = ap (λ k. get_or classes k 0) e in omega (arith, c, below))
          (λ ne. v.all b (omega (arith, h, ne)))
          (cases_eq b i);
      own = λ class h. let o = v.own class h in let l = o.0 in (omega (arith, l), o.1);
      first = λ h. absurd (omega (arith, h));
      last = λ b h. let c : get_or classes b 0 ≡ get_or classes i 0 = ap (λ k. get_or classes k 0) (omega (arith, h)) in omega (arith, c, size);
      few = let f = v.few in omega (arith, f);
    })
    (next_class classes samples i counted lt v)

pub all_have : (classes samples : List ℕ) (i : ℕ) → i ≡ 256 → AreSamplesSoFar classes samples i → AreSamples classes samples
all_have classes samples i e v = record {
  all = λ b h. v.all b (omega (arith, h, e));
  own = λ class h. let o = v.own class h in let l = o.0 in (omega (arith, l, e), o.1);
}
