-- The bytes of a scalar: which begin one, which go on with one, and how many there are.
use Rattle.std.proofs.Common.{◌≡◌, ℕ, zero, suc, ◌+◌, ◌/◌, ◌%◌, ◌<◌, ◌≤◌, ◌⊎◌, List, ◌∷◌, ◌++◌, length, inl, inr, ⊎_elim, sym, subst, refl, arith, Some, slice_get}
use Rattle.std.specs.Char.{IsScalar, encode_utf8}
use Rattle.std.proofs.lemmas.Bool.{cases_lt}
use lib.Utf8.{scalar_cases}
use Rattle.rc_program.specs.Scalars.{scalar_at}
use Rattle.rc_program.proofs.SideLemmas.{scalar_law}
use Rattle.rc_utf8.proofs.ScalarLemmas.{encode_one, encode_two, encode_three, encode_four}
use Rattle.rc_symbols.specs.Symbols.{BeginsScalar}

-- the first byte is in the range of those that begin n bytes
abbrev Heads : ℕ → ℕ → Type 0
Heads a n = ((a < 128) × (n ≡ 1)) ⊎ (((0xC2 ≤ a) × (a < 224) × (n ≡ 2)) ⊎ (((224 ≤ a) × (a < 240) × (n ≡ 3)) ⊎ ((240 ≤ a) × (a ≤ 0xF4) × (n ≡ 4))))

-- a byte there goes on with the scalar
abbrev pub GoesOn : List ℕ → ℕ → Type 0
GoesOn bs k = (b : ℕ) × (slice_get bs k ≡ Some b) × (128 ≤ b) × (b < 192)

-- the bytes begin with those of a scalar, n many
pub record IsShape (bs : List ℕ) (n : ℕ) : Type 0 where
  pub head : ℕ
  pub first : slice_get bs 0 ≡ Some head
  pub heads : Heads head n
  pub others : (k : ℕ) → 0 < k → k < n → GoesOn bs k

next_of : (x : ℕ) → (128 ≤ 128 + x % 64) × (128 + x % 64 < 192)
next_of x = (omega arith, omega arith)

one_shape : (a : ℕ) (rest : List ℕ) → a < 128 → IsShape (a ∷ rest) 1
one_shape a rest h = record { head = a; first = refl; heads = inl (h, refl); others = λ k low high. absurd (omega (arith, low, high)) }

two_shape : (a x : ℕ) (rest : List ℕ) → 0xC2 ≤ a → a < 224 → IsShape (a ∷ (128 + x % 64) ∷ rest) 2
two_shape a x rest h g = record { head = a; first = refl; heads = inr (inl (h, g, refl)); others = others }
  where
    others : (k : ℕ) → 0 < k → k < 2 → GoesOn (a ∷ (128 + x % 64) ∷ rest) k
    others zero low high = absurd (omega (arith, low))
    others (suc zero) low high = (128 + x % 64, refl, (next_of x).0, (next_of x).1)
    others (suc (suc k)) low high = absurd (omega (arith, high))

three_shape : (a x y : ℕ) (rest : List ℕ) → 224 ≤ a → a < 240 → IsShape (a ∷ (128 + x % 64) ∷ (128 + y % 64) ∷ rest) 3
three_shape a x y rest h g = record { head = a; first = refl; heads = inr (inr (inl (h, g, refl))); others = others }
  where
    others : (k : ℕ) → 0 < k → k < 3 → GoesOn (a ∷ (128 + x % 64) ∷ (128 + y % 64) ∷ rest) k
    others zero low high = absurd (omega (arith, low))
    others (suc zero) low high = (128 + x % 64, refl, (next_of x).0, (next_of x).1)
    others (suc (suc zero)) low high = (128 + y % 64, refl, (next_of y).0, (next_of y).1)
    others (suc (suc (suc k))) low high = absurd (omega (arith, high))

four_shape : (a x y z : ℕ) (rest : List ℕ) → 240 ≤ a → a ≤ 0xF4 → IsShape (a ∷ (128 + x % 64) ∷ (128 + y % 64) ∷ (128 + z % 64) ∷ rest) 4
four_shape a x y z rest h g = record { head = a; first = refl; heads = inr (inr (inr (h, g, refl))); others = others }
  where
    others : (k : ℕ) → 0 < k → k < 4 → GoesOn (a ∷ (128 + x % 64) ∷ (128 + y % 64) ∷ (128 + z % 64) ∷ rest) k
    others zero low high = absurd (omega (arith, low))
    others (suc zero) low high = (128 + x % 64, refl, (next_of x).0, (next_of x).1)
    others (suc (suc zero)) low high = (128 + y % 64, refl, (next_of y).0, (next_of y).1)
    others (suc (suc (suc zero))) low high = (128 + z % 64, refl, (next_of z).0, (next_of z).1)
    others (suc (suc (suc (suc k)))) low high = absurd (omega (arith, high))

top : (c : ℕ) → IsScalar c → c < 1114112
top c ok = ⊎_elim (λ l. omega arith) (λ p. p.1) (scalar_cases c ok)

encoded_shape : (c : ℕ) (rest : List ℕ) → IsScalar c → IsShape (encode_utf8 c ++ rest) (length (encode_utf8 c))
encoded_shape c rest ok =
    ⊎_elim (λ l. rw (encode_one c l) (one_shape c rest l))
    (λ g1. ⊎_elim (λ l. rw (encode_two c g1 l) (two_shape (192 + c / 64) c rest (omega (arith, g1, l)) (omega (arith, g1, l))))
    (λ g2. ⊎_elim (λ l. rw (encode_three c g2 l) (three_shape (224 + c / 4096) (c / 64) c rest (omega (arith, g2, l)) (omega (arith, g2, l))))
    (λ g3. let t = top c ok in rw (encode_four c g3) (four_shape (240 + c / 262144) (c / 4096) (c / 64) c rest (omega (arith, g3, t)) (omega (arith, g3, t))))
    (cases_lt c 65536)) (cases_lt c 2048)) (cases_lt c 128)

pub shape_of : (bs : List ℕ) (c n : ℕ) → scalar_at bs ≡ Some (c, n) → IsShape bs n
shape_of bs c n e =
    let r = (scalar_law.begins bs c n).0 e in
    subst (λ xs. IsShape xs n) (sym r.2.1) (subst (λ k. IsShape (encode_utf8 c ++ r.2.0) k) (sym r.1) (encoded_shape c r.2.0 r.0))

pub head_begins : (a n : ℕ) → Heads a n → BeginsScalar a
head_begins a n h =
    ⊎_elim (λ o. inl o.0)
    (λ h. ⊎_elim (λ o. inr (o.0, omega (arith, o.1)))
    (λ h. ⊎_elim (λ o. inr (omega (arith, o.0), omega (arith, o.1))) (λ o. inr (omega (arith, o.0), o.1)) h) h) h

-- no byte both begins a scalar and goes on with one
pub head_apart : (a n : ℕ) → Heads a n → (a < 128) ⊎ (192 ≤ a)
head_apart a n h =
    ⊎_elim (λ o. inl o.0)
    (λ h. ⊎_elim (λ o. inr (omega (arith, o.0)))
    (λ h. ⊎_elim (λ o. inr (omega (arith, o.0))) (λ o. inr (omega (arith, o.0))) h) h) h

pub head_one : (a n : ℕ) → Heads a n → a < 128 → n ≡ 1
head_one a n h l =
    ⊎_elim (λ o. o.1)
    (λ h. ⊎_elim (λ o. absurd (omega (arith, o.0, l)))
    (λ h. ⊎_elim (λ o. absurd (omega (arith, o.0, l))) (λ o. absurd (omega (arith, o.0, l))) h) h) h

pub one_head : (a n : ℕ) → Heads a n → n ≡ 1 → a < 128
one_head a n h one =
    ⊎_elim (λ o. o.0)
    (λ h. ⊎_elim (λ o. absurd (omega (arith, o.2, one)))
    (λ h. ⊎_elim (λ o. absurd (omega (arith, o.2, one))) (λ o. absurd (omega (arith, o.2, one))) h) h) h

pub head_few : (a n : ℕ) → Heads a n → n ≤ 4
head_few a n h =
    ⊎_elim (λ o. omega (arith, o.1))
    (λ h. ⊎_elim (λ o. omega (arith, o.2))
    (λ h. ⊎_elim (λ o. omega (arith, o.2)) (λ o. omega (arith, o.2)) h) h) h

pub head_some : (a n : ℕ) → Heads a n → 0 < n
head_some a n h =
    ⊎_elim (λ o. omega (arith, o.1))
    (λ h. ⊎_elim (λ o. omega (arith, o.2))
    (λ h. ⊎_elim (λ o. omega (arith, o.2)) (λ o. omega (arith, o.2)) h) h) h
