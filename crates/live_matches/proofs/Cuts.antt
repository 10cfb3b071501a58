-- Matches in order: where those before a place end.
use Rattle.std.proofs.Common.{◌≡◌, ℕ, zero, suc, ◌+◌, ◌<◌, ◌≤◌, true, false, List, [], ◌∷◌, length, nat_lt, Some, refl, sym, ap, ◌∙◌, arith, ⊎_elim}
use Rattle.std.specs.List.{slice_get}
use Rattle.std.proofs.lemmas.Bool.{cases_lt, le-ltb, lt-ltb, true≢false}
use Rattle.std.proofs.lemmas.Option.{none-some, same_Some}
use Rattle.rc_text.specs.Found.{Found}
use Rattle.rc_program.specs.Matches.{AreInOrder, begin_of, end_of}
use Rattle.live_matches.specs.Reading.{begins_before}

later : (hi : ℕ) (x : Found) (ms : List Found) (j : ℕ) (n : Found) → AreInOrder begin_of end_of hi (x ∷ ms) → slice_get ms j ≡ Some n → x.start ≤ n.start
later hi x [] j n o b = absurd (none-some n b)
later hi x (y ∷ ms) zero n o b = let e = ap (λ (f : Found). f.start) (same_Some y n b) in omega (arith, o.0, o.1, e)
later hi x (y ∷ ms) (suc j) n o b = let h = later hi y ms j n o.3 b in omega (arith, o.0, o.1, h)

rise : (hi : ℕ) (ms : List Found) (i j : ℕ) (m n : Found) → AreInOrder begin_of end_of hi ms → slice_get ms i ≡ Some m → slice_get ms j ≡ Some n → i ≤ j →
    m.start ≤ n.start
rise hi [] i j m n o a b le = absurd (none-some m a)
rise hi (x ∷ ms) zero zero m n o a b le = let e = ap (λ (f : Found). f.start) (same_Some m n (sym a ∙ b)) in omega (arith, e)
rise hi (x ∷ ms) zero (suc j) m n o a b le =
    let e = ap (λ (f : Found). f.start) (same_Some x m a) in
    let h = later hi x ms j n o b in omega (arith, e, h)
rise hi (x ∷ []) (suc i) j m n o a b le = absurd (none-some m a)
rise hi (x ∷ y ∷ ms) (suc i) zero m n o a b le = absurd (omega (arith, le))
rise hi (x ∷ y ∷ ms) (suc i) (suc j) m n o a b le = rise hi (y ∷ ms) i j m n o.3 a b (omega (arith, le))

pub within : (ms : List Found) (i : ℕ) (m : Found) → slice_get ms i ≡ Some m → i < length ms
within [] i m e = absurd (none-some m e)
within (x ∷ ms) zero m e = omega arith
within (x ∷ ms) (suc i) m e = let h = within ms i m e in omega (arith, h)

pub there_is : (ms : List Found) (k : ℕ) → k < length ms → (x : Found) × (slice_get ms k ≡ Some x)
there_is [] k h = absurd (omega (arith, h))
there_is (x ∷ ms) zero h = (x, refl)
there_is (x ∷ ms) (suc k) h = there_is ms k (omega (arith, h))

lt_of : (a b : ℕ) → nat_lt a b ≡ true → a < b
lt_of a b yes' = ⊎_elim (λ t. t) (λ f. absurd (true≢false (sym yes' ∙ le-ltb a b f))) (cases_lt a b)

-- the indexes from low to high are left
pub record AreLeft (at : ℕ) (ms : List Found) (low high : ℕ) : Type 0 where
  pub before : (i : ℕ) (m : Found) → slice_get ms i ≡ Some m → i < low → m.start < at
  pub after : (i : ℕ) (m : Found) → slice_get ms i ≡ Some m → high ≤ i → at ≤ m.start

pub all_left : (at : ℕ) (ms : List Found) → AreLeft at ms 0 (length ms)
all_left at ms = record {
  before = λ i m e h. absurd (omega (arith, h));
  after = λ i m e h. absurd (let w = within ms i m e in omega (arith, w, h));
}

pub lower_left : (hi at : ℕ) (ms : List Found) (low high k : ℕ) → AreInOrder begin_of end_of hi ms → k < length ms →
    begins_before at (slice_get ms k) ≡ true → AreLeft at ms low high → AreLeft at ms (k + 1) high
lower_left hi at ms low high k o inside begun' left =
    let x = there_is ms k inside in
    let begun : nat_lt x.0.start at ≡ true = sym (ap (begins_before at) x.1) ∙ begun' in
    record {
      before = λ i m e h. let r = rise hi ms i k m x.0 o e x.1 (omega (arith, h)) in let b = lt_of x.0.start at begun in omega (arith, r, b);
      after = left.after;
    }

pub upper_left : (hi at : ℕ) (ms : List Found) (low high k : ℕ) → AreInOrder begin_of end_of hi ms → k < length ms →
    begins_before at (slice_get ms k) ≡ false → AreLeft at ms low high → AreLeft at ms low k
upper_left hi at ms low high k o inside isnt left =
    let x = there_is ms k inside in
    let late : nat_lt x.0.start at ≡ false = sym (ap (begins_before at) x.1) ∙ isnt in
    record {
      before = left.before;
      after = λ i m e h. let r = rise hi ms k i x.0 m o x.1 e h in
          ⊎_elim (λ t. absurd (true≢false (sym (lt-ltb x.0.start at t) ∙ late))) (λ f. omega (arith, r, f)) (cases_lt x.0.start at);
    }
