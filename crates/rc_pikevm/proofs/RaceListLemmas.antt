-- Threads up to a start.
use Rattle.std.proofs.Common.{◌≡◌, ℕ, ◌<◌, ◌≤◌, List, [], ◌∷◌, ◌++◌, ⊎_elim, sym, subst, ap, ◌∙◌, refl, arith}
use Rattle.std.proofs.lemmas.Bool.{le-leb, lt-leb, cases_lt}
use Rattle.rc_walks.specs.Walks.{Pair}
use Rattle.rc_walks.specs.Threads.{threads, AllPast}
use Rattle.rc_pikevm.specs.Races.{upto, Each, IsRising}

module _ (H : Type 0) (start : H → ℕ) where
  pub upto_in : (y : ℕ) (t : H × Pair) (ts : List (H × Pair)) → start t.0 ≤ y → upto start y (t ∷ ts) ≡ t ∷ upto start y ts
  upto_in y t ts h = rw (le-leb (start t.0) y h) refl

  pub upto_out : (y : ℕ) (t : H × Pair) (ts : List (H × Pair)) → y < start t.0 → upto start y (t ∷ ts) ≡ upto start y ts
  upto_out y t ts h = rw (lt-leb (start t.0) y h) refl

  pub upto_none : (x y : ℕ) (ts : List (H × Pair)) → y < x → Each start (λ k. x ≤ k) ts → upto start y ts ≡ []
  upto_none x y [] h e = refl
  upto_none x y (t ∷ ts) h e = upto_out y t ts (let l = e.0 in omega (arith, h, l)) ∙ upto_none x y ts h e.1

  pub upto_append : (y : ℕ) (rs ts : List (H × Pair)) → upto start y (rs ++ ts) ≡ upto start y rs ++ upto start y ts
  upto_append y [] ts = refl
  upto_append y (r ∷ rs) ts =
      ⊎_elim
      (λ l. upto_out y r (rs ++ ts) l ∙ upto_append y rs ts ∙ ap (λ k. k ++ upto start y ts) (sym (upto_out y r rs l)))
      (λ g. upto_in y r (rs ++ ts) g ∙ ap (λ k. r ∷ k) (upto_append y rs ts) ∙ ap (λ k. k ++ upto start y ts) (sym (upto_in y r rs g)))
      (cases_lt y (start r.0))

  pub upto_upto : (x y : ℕ) (ts : List (H × Pair)) → y ≤ x → upto start y (upto start x ts) ≡ upto start y ts
  upto_upto x y [] h = refl
  upto_upto x y (t ∷ ts) h =
      ⊎_elim
      (λ l. ap (upto start y) (upto_out x t ts l) ∙ upto_upto x y ts h ∙ sym (upto_out y t ts (omega (arith, l, h))))
      (λ g. ap (upto start y) (upto_in x t ts g)
      ∙ ⊎_elim
      (λ l. upto_out y t (upto start x ts) l ∙ upto_upto x y ts h ∙ sym (upto_out y t ts l))
      (λ k. upto_in y t (upto start x ts) k ∙ ap (λ z. t ∷ z) (upto_upto x y ts h) ∙ sym (upto_in y t ts k))
      (cases_lt y (start t.0)))
      (cases_lt x (start t.0))

  pub upto_threads_in : (y : ℕ) (h : H) (ms : List Pair) (ts : List (H × Pair)) → start h ≤ y →
      upto start y (threads h ms ++ ts) ≡ threads h ms ++ upto start y ts
  upto_threads_in y h [] ts l = refl
  upto_threads_in y h (m ∷ ms) ts l = upto_in y (h, m) (threads h ms ++ ts) l ∙ ap (λ z. (h, m) ∷ z) (upto_threads_in y h ms ts l)

  pub upto_threads_out : (y : ℕ) (h : H) (ms : List Pair) (ts : List (H × Pair)) → y < start h →
      upto start y (threads h ms ++ ts) ≡ upto start y ts
  upto_threads_out y h [] ts l = refl
  upto_threads_out y h (m ∷ ms) ts l = upto_out y (h, m) (threads h ms ++ ts) l ∙ upto_threads_out y h ms ts l

  pub past_upto : (at y : ℕ) (ts : List (H × Pair)) → AllPast at ts → AllPast at (upto start y ts)
  past_upto at y [] p = tt
  past_upto at y (t ∷ ts) p =
      ⊎_elim
      (λ l. subst (AllPast at) (sym (upto_out y t ts l)) (past_upto at y ts p.1))
      (λ g. subst (AllPast at) (sym (upto_in y t ts g)) (p.0, past_upto at y ts p.1))
      (cases_lt y (start t.0))

  module _ (Holds : ℕ → Type 0) where
    pub each_upto : (x : ℕ) (ts : List (H × Pair)) → Each start Holds ts → Each start Holds (upto start x ts)
    each_upto x [] e = tt
    each_upto x (t ∷ ts) e =
        ⊎_elim
        (λ l. subst (Each start Holds) (sym (upto_out x t ts l)) (each_upto x ts e.1))
        (λ g. subst (Each start Holds) (sym (upto_in x t ts g)) (e.0, each_upto x ts e.1))
        (cases_lt x (start t.0))

    pub each_threads : (h : H) (ms : List Pair) (ts : List (H × Pair)) → Holds (start h) → Each start Holds ts → Each start Holds (threads h ms ++ ts)
    each_threads h [] ts l e = e
    each_threads h (m ∷ ms) ts l e = (l, each_threads h ms ts l e)

    pub each_swap : (rs a b : List (H × Pair)) → (Each start Holds a → Each start Holds b) → Each start Holds (rs ++ a) → Each start Holds (rs ++ b)
    each_swap [] a b f e = f e
    each_swap (r ∷ rs) a b f e = (e.0, each_swap rs a b f e.1)

  -- all up to x
  pub each_to : (x : ℕ) (ts : List (H × Pair)) → Each start (λ y. y ≤ x) (upto start x ts)
  each_to x [] = tt
  each_to x (t ∷ ts) =
      ⊎_elim
      (λ l. subst (Each start (λ y. y ≤ x)) (sym (upto_out x t ts l)) (each_to x ts))
      (λ g. subst (Each start (λ y. y ≤ x)) (sym (upto_in x t ts g)) (g, each_to x ts))
      (cases_lt x (start t.0))

  pub rising_upto : (x : ℕ) (ts : List (H × Pair)) → IsRising start ts → IsRising start (upto start x ts)
  rising_upto x [] r = tt
  rising_upto x (t ∷ ts) r =
      ⊎_elim
      (λ l. subst (IsRising start) (sym (upto_out x t ts l)) (rising_upto x ts r.1))
      (λ g. subst (IsRising start) (sym (upto_in x t ts g)) (each_upto (λ y. start t.0 ≤ y) x ts r.0, rising_upto x ts r.1))
      (cases_lt x (start t.0))

  pub rising_threads : (h : H) (ms : List Pair) (ts : List (H × Pair)) → Each start (λ y. start h ≤ y) ts → IsRising start ts →
      IsRising start (threads h ms ++ ts)
  rising_threads h [] ts e r = r
  rising_threads h (m ∷ ms) ts e r = (each_threads (λ y. start h ≤ y) h ms ts (omega arith) e, rising_threads h ms ts e r)

  pub rising_tail : (rs ts : List (H × Pair)) → IsRising start (rs ++ ts) → IsRising start ts
  rising_tail [] ts r = r
  rising_tail (t ∷ rs) ts r = rising_tail rs ts r.1

  pub rising_swap : (rs a b : List (H × Pair)) → ((Holds : ℕ → Type 0) → Each start Holds a → Each start Holds b) → IsRising start b →
      IsRising start (rs ++ a) → IsRising start (rs ++ b)
  rising_swap [] a b f r h = r
  rising_swap (t ∷ rs) a b f r h = (each_swap (λ y. start t.0 ≤ y) rs a b (f (λ y. start t.0 ≤ y)) h.0, rising_swap rs a b f r h.1)

  -- a thread is put with those before
  pub moved_over : (rs : List (H × Pair)) (t : H × Pair) (ts : List (H × Pair)) → rs ++ t ∷ ts ≡ (rs ++ t ∷ []) ++ ts
  moved_over [] t ts = refl
  moved_over (r ∷ rs) t ts = ap (λ z. r ∷ z) (moved_over rs t ts)

  -- those that began no later are all kept
  pub upto_all : (x : ℕ) (ts : List (H × Pair)) → Each start (λ y. y ≤ x) ts → upto start x ts ≡ ts
  upto_all x [] e = refl
  upto_all x (t ∷ ts) e = upto_in x t ts e.0 ∙ ap (λ z. t ∷ z) (upto_all x ts e.1)

  each_middle : (Holds : ℕ → Type 0) (rs : List (H × Pair)) (t : H × Pair) (ts : List (H × Pair)) → Each start Holds (rs ++ t ∷ ts) → Holds (start t.0)
  each_middle Holds [] t ts e = e.0
  each_middle Holds (r ∷ rs) t ts e = each_middle Holds rs t ts e.1

  -- the threads before began no later
  pub rising_before : (rs : List (H × Pair)) (t : H × Pair) (ts : List (H × Pair)) → IsRising start (rs ++ t ∷ ts) → Each start (λ y. y ≤ start t.0) rs
  rising_before [] t ts h = tt
  rising_before (r ∷ rs) t ts h = (each_middle (λ y. start r.0 ≤ y) rs t ts h.0, rising_before rs t ts h.1)
