-- Only proofs use this file.
-- A text is cut at its first terminator.
use Rattle.std.proofs.Common.{ℕ, ◌≡◌, ◌<◌, ◌-◌, ◌∙◌, ◌++◌, ◌∷◌, [], ◌==◌, Bool, false, true, List, Option, Some, None, IfSome, ap, append_assoc, arith, cond, refl, sym, subst, length, take, get_or, length-append, ne_eqb, zero, suc}
use Rattle.std.specs.Io.BufRead.{take_through, drop_through, DropsThrough}
use Rattle.std.specs.Io.KnownBytes.{Consumes, Keeps}
use Rattle.std.proofs.lemmas.Bool.{eq-eqb, eqb-true, eqb-false}
use Rattle.std.proofs.lemmas.List.{get_or_at, take_at}
use Rattle.grep_lines.specs.Lines.{before_first, lines}
use Rattle.grep_lines.specs.Selected.{TakesLine}

abbrev pub HasNo : (terminator : ℕ) → List ℕ → Type 0
HasNo stop xs = (k : ℕ) → k < length xs → get_or xs k 0 ≡ stop → ⊥

-- A text is empty, or one line without its terminator, or begins with a line that has one.
pub data Parts (stop : ℕ) (xs : List ℕ) : Type 0 where
  none : xs ≡ [] → Parts stop xs
  whole : lines stop xs ≡ xs ∷ [] → take_through stop xs ≡ xs → drop_through stop xs ≡ [] → HasNo stop xs → Parts stop xs
  cut : (line : List ℕ) → take_through stop xs ≡ line ++ stop ∷ [] → lines stop xs ≡ line ∷ lines stop (drop_through stop xs) → Parts stop xs

module _ (stop : ℕ) where
  has_no_more : (x : ℕ) (xs : List ℕ) → (x ≡ stop → ⊥) → HasNo stop xs → HasNo stop (x ∷ xs)
  has_no_more x xs ne free zero lt e = ne e
  has_no_more x xs ne free (suc k) lt e = free k (omega (arith, lt)) e

  module _ (x : ℕ) (xs : List ℕ) where
    through : Bool → List ℕ
    through b = cond b (x ∷ []) (x ∷ take_through stop xs)

    step_other : (x == stop) ≡ false → Parts stop xs → Parts stop (x ∷ xs)
    step_other e (none n) =
        whole
        (ap (λ c. cond c ([] ∷ lines stop xs) (before_first x (lines stop xs))) e ∙ ap (λ ys. before_first x (lines stop ys)) n ∙ ap (λ ys. (x ∷ ys) ∷ []) (sym n))
        (ap (λ c. cond c (x ∷ []) (x ∷ take_through stop xs)) e ∙ ap (λ ys. x ∷ take_through stop ys) n ∙ ap (λ ys. x ∷ ys) (sym n))
        (ap (λ c. cond c xs (drop_through stop xs)) e ∙ ap (drop_through stop) n)
        (has_no_more x xs (eqb-false x stop e) (subst (HasNo stop) (sym n) (λ k lt. absurd (omega (arith, lt)))))
    step_other e (whole l t d free) =
        whole
        (ap (λ c. cond c ([] ∷ lines stop xs) (before_first x (lines stop xs))) e ∙ ap (before_first x) l)
        (ap (λ c. cond c (x ∷ []) (x ∷ take_through stop xs)) e ∙ ap (λ ys. x ∷ ys) t)
        (ap (λ c. cond c xs (drop_through stop xs)) e ∙ d)
        (has_no_more x xs (eqb-false x stop e) free)
    step_other e (cut line t l) =
        cut (x ∷ line)
        (ap (λ c. cond c (x ∷ []) (x ∷ take_through stop xs)) e ∙ ap (λ ys. x ∷ ys) t)
        (ap (λ c. cond c ([] ∷ lines stop xs) (before_first x (lines stop xs))) e ∙ ap (before_first x) l
        ∙ ap (λ ys. (x ∷ line) ∷ lines stop ys) (sym (ap (λ c. cond c xs (drop_through stop xs)) e)))

    step_stop : (x == stop) ≡ true → Parts stop (x ∷ xs)
    step_stop e =
        cut []
        (ap (λ c. cond c (x ∷ []) (x ∷ take_through stop xs)) e ∙ ap (λ y. y ∷ []) (eqb-true x stop e))
        (ap (λ c. cond c ([] ∷ lines stop xs) (before_first x (lines stop xs))) e ∙ ap (λ ys. [] ∷ lines stop ys) (sym (ap (λ c. cond c xs (drop_through stop xs)) e)))

    step : (b : Bool) → (x == stop) ≡ b → Parts stop xs → Parts stop (x ∷ xs)
    step true e p = step_stop e
    step false e p = step_other e p

  pub parts : (xs : List ℕ) → Parts stop xs
  parts [] = none refl
  parts (x ∷ xs) = step x xs (x == stop) refl (parts xs)

  module _ (new : Option (List ℕ)) (items : List ℕ) (some : 0 < length items) where
    -- the line was read with its terminator
    cut_at : (xs : List ℕ) → Parts stop xs → items ≡ take_through stop xs → new ≡ Some (drop_through stop xs) → get_or items (length items - 1) 0 ≡ stop →
        TakesLine stop xs true (take (length items - 1) items) new
    cut_at xs (none n) i d last = absurd (omega (arith, some, ap length (i ∙ ap (take_through stop) n)))
    cut_at xs (whole l t w free) i d last =
        absurd (free (length items - 1) (omega (arith, some, ap length (i ∙ t))) (ap (λ ys. get_or ys (length items - 1) 0) (sym (i ∙ t)) ∙ last))
    cut_at xs (cut line t l) i d last =
        let sized : length line ≡ length items - 1 = omega (arith, ap length (i ∙ t), length-append line (stop ∷ [])) in (
          drop_through stop xs,
          d,
          l ∙ ap (λ ys. ys ∷ lines stop (drop_through stop xs)) (sym (ap (take (length items - 1)) (i ∙ t) ∙ take_at line (stop ∷ []) (length items - 1) sized)),
        )

    -- it has none
    whole_at : (xs : List ℕ) → Parts stop xs → items ≡ take_through stop xs → new ≡ Some (drop_through stop xs) → (get_or items (length items - 1) 0 ≡ stop → ⊥) →
        TakesLine stop xs true items new
    whole_at xs (none n) i d other = absurd (omega (arith, some, ap length (i ∙ ap (take_through stop) n)))
    whole_at xs (whole l t w free) i d other = ([], d ∙ ap Some w, l ∙ ap (λ ys. ys ∷ []) (sym (i ∙ t)))
    whole_at xs (cut line t l) i d other =
        let sized : length line ≡ length items - 1 = omega (arith, ap length (i ∙ t), length-append line (stop ∷ [])) in
        absurd (other (ap (λ ys. get_or ys (length items - 1) 0) (i ∙ t) ∙ get_or_at line stop [] 0 (length items - 1) sized))

    pub takes_cut : (old : Option (List ℕ)) → IfSome old (λ xs. items ≡ take_through stop xs) → DropsThrough old new stop →
        get_or items (length items - 1) 0 ≡ stop → IfSome old (λ xs. TakesLine stop xs true (take (length items - 1) items) new)
    takes_cut None i d last = tt
    takes_cut (Some xs) i d last = cut_at xs (parts xs) i d last

    pub takes_whole : (old : Option (List ℕ)) → IfSome old (λ xs. items ≡ take_through stop xs) → DropsThrough old new stop →
        (get_or items (length items - 1) 0 ≡ stop → ⊥) → IfSome old (λ xs. TakesLine stop xs true items new)
    takes_whole None i d other = tt
    takes_whole (Some xs) i d other = whole_at xs (parts xs) i d other

  -- a line and its terminator, and then the others
  pub lines_cut : (line rest : List ℕ) → HasNo stop line → lines stop (line ++ stop ∷ rest) ≡ line ∷ lines stop rest
  lines_cut [] rest free = ap (λ c. cond c ([] ∷ lines stop rest) (before_first stop (lines stop rest))) (eq-eqb stop stop refl)
  lines_cut (x ∷ line) rest free =
      ap (λ c. cond c ([] ∷ lines stop (line ++ stop ∷ rest)) (before_first x (lines stop (line ++ stop ∷ rest)))) (ne_eqb x stop (free 0 (omega arith)))
      ∙ ap (before_first x) (lines_cut line rest (λ k lt. free (suc k) (omega (arith, lt))))

  -- a line was taken with its terminator
  pub takes_shown : (line shown : List ℕ) (old new : Option (List ℕ)) → HasNo stop line → shown ≡ line ++ stop ∷ [] → Consumes old new shown →
      IfSome old (λ xs. TakesLine stop xs true line new)
  takes_shown line shown None new free is e = tt
  takes_shown line shown (Some xs) None free is e = absurd e
  takes_shown line shown (Some xs) (Some rest) free is e =
      (rest, refl, ap (lines stop) (e ∙ ap (λ ys. ys ++ rest) is ∙ append_assoc line (stop ∷ []) rest) ∙ lines_cut line rest free)

-- what holds of known bytes that were kept held before
pub kept_some : (P : List ℕ → Type 0) (old mid : Option (List ℕ)) → Keeps old mid → IfSome mid P → IfSome old P
kept_some P None mid k h = tt
kept_some P (Some xs) None k h = absurd k
kept_some P (Some xs) (Some ys) k h = subst P k h
