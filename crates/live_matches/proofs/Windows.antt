-- Matches in order: those that touch a window stand side by side.
use Rattle.std.proofs.Common.{◌≡◌, ◌≢◌, ℕ, zero, suc, ◌+◌, ◌-◌, ◌<◌, ◌≤◌, Bool, true, false, nat_le, ◌&&◌, ◌||◌, List, [], ◌∷◌, length, cond, drop, take, filter, Some, refl, sym, ap, ◌∙◌, arith, ⊎_elim}
use Rattle.std.specs.List.{slice_get}
use Rattle.std.proofs.lemmas.Bool.{cases_lt, le-leb, le-ltb, leb-false, leb-true, lt-leb, lt-ltb}
use Rattle.std.proofs.lemmas.Option.{none-some, same_Some}
use Rattle.rc_text.specs.Found.{Found}
use Rattle.rc_text.specs.declared.types.Span.{Span}
use Rattle.rc_program.specs.Matches.{AreInOrder, begin_of, end_of}
use Rattle.live_matches.specs.Reading.{IsAbove, IsCut, IsDownTo, ends_by, touches}
use Rattle.live_matches.proofs.Cuts.{there_is, within}

-- ---- matches in order

pub forwards : (hi : ℕ) (ms : List Found) (i : ℕ) (m : Found) → AreInOrder begin_of end_of hi ms → slice_get ms i ≡ Some m → m.start ≤ m.end
forwards hi [] i m o a = absurd (none-some m a)
forwards hi (x ∷ []) zero m o a = let e = ap (λ (f : Found). f.start) (same_Some x m a) in let d = ap (λ (f : Found). f.end) (same_Some x m a) in omega (arith, o.0, e, d)
forwards hi (x ∷ y ∷ ms) zero m o a = let e = ap (λ (f : Found). f.start) (same_Some x m a) in let d = ap (λ (f : Found). f.end) (same_Some x m a) in omega (arith, o.0, e, d)
forwards hi (x ∷ []) (suc i) m o a = absurd (none-some m a)
forwards hi (x ∷ y ∷ ms) (suc i) m o a = forwards hi (y ∷ ms) i m o.3 a

-- each ends before a later one begins, and before it ends
pub apart : (hi : ℕ) (ms : List Found) (i j : ℕ) (m n : Found) → AreInOrder begin_of end_of hi ms → slice_get ms i ≡ Some m → slice_get ms j ≡ Some n → i < j →
    (m.end ≤ n.start) × (m.end < n.end)
apart hi [] i j m n o a b lt = absurd (none-some m a)
apart hi (x ∷ []) zero zero m n o a b lt = absurd (omega (arith, lt))
apart hi (x ∷ []) zero (suc j) m n o a b lt = absurd (none-some n b)
apart hi (x ∷ []) (suc i) j m n o a b lt = absurd (none-some m a)
apart hi (x ∷ y ∷ ms) i zero m n o a b lt = absurd (omega (arith, lt))
apart hi (x ∷ y ∷ ms) zero (suc zero) m n o a b lt =
    let d = ap (λ (f : Found). f.end) (same_Some x m a) in
    let e = ap (λ (f : Found). f.start) (same_Some y n b) in
    let f = ap (λ (f : Found). f.end) (same_Some y n b) in
    (omega (arith, o.1, d, e), omega (arith, o.2, d, f))
apart hi (x ∷ y ∷ ms) zero (suc (suc j)) m n o a b lt =
    let d = ap (λ (f : Found). f.end) (same_Some x m a) in
    let h = apart hi (y ∷ ms) zero (suc j) y n o.3 refl b (omega arith) in
    let l = forwards hi (y ∷ ms) zero y o.3 refl in
    (omega (arith, o.1, d, h.0, l), omega (arith, o.2, d, h.1))
apart hi (x ∷ y ∷ ms) (suc i) (suc j) m n o a b lt = apart hi (y ∷ ms) i j m n o.3 a b (omega (arith, lt))

same_end : (ms : List Found) (i j : ℕ) (m n : Found) → slice_get ms i ≡ Some m → slice_get ms j ≡ Some n → i ≡ j → m.end ≡ n.end
same_end ms i j m n a b e = ap (λ (f : Found). f.end) (same_Some m n (sym a ∙ ap (slice_get ms) e ∙ b))

ended : (at : ℕ) (m : Found) → ends_by at (Some m) ≡ true → m.end ≤ at
ended at m e = leb-true m.end at e

not_ended : (at : ℕ) (m : Found) → ends_by at (Some m) ≡ false → at < m.end
not_ended at m e = leb-false m.end at e

module _ (hi at : ℕ) (ms : List Found) (k : ℕ) (o : AreInOrder begin_of end_of hi ms) (cut : IsCut at ms k) where
  -- the last match that begins before the place ends by it
  pub all_above : (k ≢ 0 → ends_by at (slice_get ms (k - 1)) ≡ true) → IsAbove at ms k
  all_above h = record {
    before = λ i m a lt. (
      cut.before i m a lt,
      let x = there_is ms (k - 1) (omega (arith, lt, cut.inside)) in
          let e = ended at x.0 (sym (ap (ends_by at) x.1) ∙ h (λ z. omega (arith, z, lt))) in
          ⊎_elim (λ l. let d = apart hi ms i (k - 1) m x.0 o a x.1 l in omega (arith, d.1, e))
          (λ g. let d = same_end ms i (k - 1) m x.0 a x.1 (omega (arith, lt, g)) in omega (arith, d, e)) (cases_lt i (k - 1)),
    );
    after = λ i m a le s. absurd (let l = cut.after i m a le in omega (arith, l, s));
  }

  -- it ends after the place
  pub last_touches : k ≢ 0 → ends_by at (slice_get ms (k - 1)) ≡ false → IsAbove at ms (k - 1)
  last_touches some h =
      let x = there_is ms (k - 1) (omega (arith, some, cut.inside)) in
      let e = not_ended at x.0 (sym (ap (ends_by at) x.1) ∙ h) in
      let f = cut.before (k - 1) x.0 x.1 (omega (arith, some)) in
      record {
        before = λ i m a lt. (
          cut.before i m a (omega (arith, lt)),
          let d = apart hi ms i (k - 1) m x.0 o a x.1 lt in omega (arith, d.0, f),
        );
        after = λ i m a le s. ⊎_elim
            (λ l. let d = same_end ms i (k - 1) m x.0 a x.1 (omega (arith, l, le)) in omega (arith, d, e))
            (λ g. absurd (let l = cut.after i m a g in omega (arith, l, s))) (cases_lt i k);
      }

  -- the first match that begins at the place or later is empty there
  pub one_at : k < length ms → ends_by at (slice_get ms k) ≡ true → IsDownTo at ms (k + 1)
  one_at some h =
      let x = there_is ms k some in
      let e = ended at x.0 (sym (ap (ends_by at) x.1) ∙ h) in
      let s = cut.after k x.0 x.1 (omega arith) in
      let f = forwards hi ms k x.0 o x.1 in
      record {
        before = λ i m a lt le. ⊎_elim (λ l. absurd (let b = cut.before i m a l in omega (arith, b, le)))
            (λ g. let d = same_end ms i k m x.0 a x.1 (omega (arith, lt, g)) in omega (arith, d, e)) (cases_lt i k);
        after = λ i m a le. (
          cut.after i m a (omega (arith, le)),
          let d = apart hi ms k i x.0 m o x.1 a (omega (arith, le)) in omega (arith, d.1, s, f),
        );
      }

  -- it isn't, or there is none
  pub none_at : (k < length ms → ends_by at (slice_get ms k) ≡ false) → IsDownTo at ms k
  none_at h = record {
    before = λ i m a lt le. absurd (let b = cut.before i m a lt in omega (arith, b, le));
    after = λ i m a le.
        let inside = within ms i m a in
        let x = there_is ms k (omega (arith, inside, le)) in
        let e = not_ended at x.0 (sym (ap (ends_by at) x.1) ∙ h (omega (arith, inside, le))) in (
          cut.after i m a le,
          ⊎_elim (λ l. let d = apart hi ms k i x.0 m o x.1 a l in omega (arith, d.1, e))
              (λ g. let d = same_end ms i k m x.0 a x.1 (omega (arith, le, g)) in omega (arith, d, e)) (cases_lt k i),
        );
  }

-- ---- the list of those that pass a test

first_ones : (p : Found → Bool) (n : ℕ) (ms : List Found) →
    ((i : ℕ) (m : Found) → slice_get ms i ≡ Some m → i < n → p m ≡ true) →
    ((i : ℕ) (m : Found) → slice_get ms i ≡ Some m → n ≤ i → p m ≡ false) → take n ms ≡ filter p ms
first_ones p zero [] yes' other = refl
first_ones p (suc n) [] yes' other = refl
first_ones p zero (x ∷ ms) yes' other =
    first_ones p zero ms (λ i m e h. yes' (suc i) m e (omega (arith, h))) (λ i m e h. other (suc i) m e (omega arith))
    ∙ sym (ap (λ b. cond b (x ∷ filter p ms) (filter p ms)) (other zero x refl (omega arith)))
first_ones p (suc n) (x ∷ ms) yes' other =
    ap (λ zs. x ∷ zs) (first_ones p n ms (λ i m e h. yes' (suc i) m e (omega (arith, h))) (λ i m e h. other (suc i) m e (omega (arith, h))))
    ∙ sym (ap (λ b. cond b (x ∷ filter p ms) (filter p ms)) (yes' zero x refl (omega arith)))

pub those_between : (p : Found → Bool) (a b n : ℕ) (ms : List Found) → n ≡ b - a →
    ((i : ℕ) (m : Found) → slice_get ms i ≡ Some m → i < a → p m ≡ false) →
    ((i : ℕ) (m : Found) → slice_get ms i ≡ Some m → a ≤ i → i < b → p m ≡ true) →
    ((i : ℕ) (m : Found) → slice_get ms i ≡ Some m → b ≤ i → p m ≡ false) → take n (drop a ms) ≡ filter p ms
those_between p zero b n ms e above inside below =
    first_ones p n ms (λ i m x h. inside i m x (omega arith) (omega (arith, e, h))) (λ i m x h. below i m x (omega (arith, e, h)))
those_between p (suc a) b zero [] e above inside below = refl
those_between p (suc a) b (suc n) [] e above inside below = refl
those_between p (suc a) b n (x ∷ ms) e above inside below =
    those_between p a (b - 1) n ms (omega (arith, e)) (λ i m y h. above (suc i) m y (omega (arith, h)))
    (λ i m y h l. inside (suc i) m y (omega (arith, h)) (omega (arith, l))) (λ i m y h. below (suc i) m y (omega (arith, h)))
    ∙ sym (ap (λ b. cond b (x ∷ filter p ms) (filter p ms)) (above zero x refl (omega arith)))

-- ---- a match and a window

or_yes : (b : Bool) → (b || true) ≡ true
or_yes true = refl
or_yes false = refl

above_it : (w : Span) (m : Found) → m.start < w.start → m.end ≤ w.start → touches w m ≡ false
above_it w m s e = rw (lt-leb w.start m.start s) (rw (le-ltb w.start m.end e) refl)

below_it : (w : Span) (m : Found) → w.end ≤ m.start → w.end < m.end → touches w m ≡ false
below_it w m s e = rw (lt-leb m.end w.end e) (rw (le-ltb m.start w.end s) (grind arith))

in_it : (w : Span) (m : Found) → m.start ≤ m.end → (m.start < w.start → w.start < m.end) → (w.end ≤ m.start → m.end ≤ w.end) → touches w m ≡ true
in_it w m o up down =
    ⊎_elim
    (λ s. ⊎_elim
    (λ t. rw (lt-ltb w.start m.end (up s)) (rw (lt-ltb m.start w.end t) (or_yes (nat_le w.start m.start && nat_le m.end w.end))))
    (λ t. absurd (let a = up s in let b = down t in omega (arith, s, t, a, b))) (cases_lt m.start w.end))
    (λ s. ⊎_elim
    (λ t. let b : m.start < w.end = ⊎_elim (λ l. l) (λ g. absurd (let d = down g in omega (arith, d, t))) (cases_lt m.start w.end) in
    rw (lt-ltb w.start m.end (omega (arith, s, b, t))) (rw (lt-ltb m.start w.end b) (or_yes (nat_le w.start m.start && nat_le m.end w.end))))
    (λ t. rw (le-leb w.start m.start s) (rw (le-leb m.end w.end t) refl)) (cases_lt w.end m.end))
    (cases_lt m.start w.start)

pub are_in : (hi : ℕ) (w : Span) (ms : List Found) (a b n : ℕ) → AreInOrder begin_of end_of hi ms → IsAbove w.start ms a → IsDownTo w.end ms b → n ≡ b - a →
    take n (drop a ms) ≡ filter (touches w) ms
are_in hi w ms a b n o above down e =
    those_between (touches w) a b n ms e
    (λ i m x l. let d = above.before i m x l in above_it w m d.0 d.1)
    (λ i m x l h. in_it w m (forwards hi ms i m o x) (above.after i m x l) (down.before i m x h))
    (λ i m x h. let d = down.after i m x h in below_it w m d.0 d.1)

-- ---- the matches that are left, one after the other

left_at : (ms : List Found) (a n : ℕ) (x : Found) → slice_get ms a ≡ Some x → take (suc n) (drop a ms) ≡ x ∷ take n (drop (suc a) ms)
left_at [] a n x e = absurd (none-some x e)
left_at (y ∷ ms) zero n x e = ap (λ z. z ∷ take n ms) (same_Some y x e)
left_at (y ∷ ms) (suc a) n x e = left_at ms a n x e

pub one_left : (ms : List Found) (a b : ℕ) (x : Found) → slice_get ms a ≡ Some x → a < b →
    take (b - a) (drop a ms) ≡ x ∷ take (b - (a + 1)) (drop (a + 1) ms)
one_left ms a b x e lt =
    let n : b - a ≡ suc (b - (a + 1)) = omega (arith, lt) in
    let k : suc a ≡ a + 1 = omega arith in
    ap (λ i. take i (drop a ms)) n ∙ left_at ms a (b - (a + 1)) x e ∙ ap (λ i. x ∷ take (b - (a + 1)) (drop i ms)) k
