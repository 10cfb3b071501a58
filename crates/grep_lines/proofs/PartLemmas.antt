-- Only proofs use this file.
-- The selected lines of a text are those of its parts.
use Rattle.std.proofs.Common.{ℕ, ◌≡◌, ◌<◌, ◌+◌, ◌∙◌, ◌++◌, ◌∷◌, [], ◌==◌, Bool, false, true, List, ap, ap₂, arith, cond, refl, sym, length, map}
use Rattle.std.specs.List.{filter}
use Rattle.std.proofs.lemmas.List.Elements.{filter-append}
use Rattle.grep_lines.specs.Lines.{before_first, lines}
use Rattle.grep_lines.specs.Pages.{IsWhole}
use Rattle.grep_lines.specs.Parts.{Placed, placed, selected, shifted}
use Rattle.grep_lines.proofs.PageLemmas.{lines_append, some_left, whole_tail}

-- the bytes of lines with their terminators
unfoldable pub size_of : List (List ℕ) → ℕ
size_of [] = 0
size_of (line ∷ rest) = length line + 1 + size_of rest

before_size : (x : ℕ) (ls : List (List ℕ)) → 0 < length ls → size_of (before_first x ls) ≡ size_of ls + 1
unfolding size_of
before_size x [] some = absurd (omega (arith, some))
before_size x (l ∷ ls) some = omega arith

module _ (stop : ℕ) (x : ℕ) (xs : List ℕ) (w : IsWhole stop (x ∷ xs)) where
  size_step : length xs ≡ size_of (lines stop xs) → (b : Bool) → (x == stop) ≡ b → length (x ∷ xs) ≡ size_of (lines stop (x ∷ xs))
  unfolding size_of
  size_step rest true e =
      let more : length (x ∷ xs) ≡ size_of ([] ∷ lines stop xs) = omega (arith, rest) in
      more ∙ ap (λ c. size_of (cond c ([] ∷ lines stop xs) (before_first x (lines stop xs)))) (sym e)
  size_step rest false e =
      let more : length (x ∷ xs) ≡ size_of (before_first x (lines stop xs)) = omega (arith, rest, before_size x (lines stop xs) (some_left stop x xs e w)) in
      more ∙ ap (λ c. size_of (cond c ([] ∷ lines stop xs) (before_first x (lines stop xs)))) (sym e)

-- whole lines have as many bytes as their text
pub whole_size : (stop : ℕ) (xs : List ℕ) → IsWhole stop xs → length xs ≡ size_of (lines stop xs)
unfolding size_of
whole_size stop [] w = refl
whole_size stop (x ∷ xs) w = size_step stop x xs w (whole_size stop xs (whole_tail stop x xs w)) (x == stop) refl

placed_append : (n p : ℕ) (ls ms : List (List ℕ)) → placed n p (ls ++ ms) ≡ placed n p ls ++ placed (n + length ls) (p + size_of ls) ms
unfolding size_of
placed_append n p [] ms = ap₂ (λ i j. placed i j ms) (omega arith) (omega arith)
placed_append n p (l ∷ ls) ms =
    ap (λ rest. record { number = n; place = p; line = l } ∷ rest)
    (placed_append (n + 1) (p + length l + 1) ls ms
    ∙ ap₂ (λ i j. placed (n + 1) (p + length l + 1) ls ++ placed i j ms) (omega arith) (omega arith))

placed_shifted : (count bytes n p : ℕ) (ls : List (List ℕ)) → placed (count + n) (bytes + p) ls ≡ map (shifted count bytes) (placed n p ls)
placed_shifted count bytes n p [] = refl
placed_shifted count bytes n p (l ∷ ls) =
    ap (λ rest. record { number = count + n; place = bytes + p; line = l } ∷ rest)
    (ap₂ (λ i j. placed i j ls) (omega arith) (omega arith) ∙ placed_shifted count bytes (n + 1) (p + length l + 1) ls)

module _ (stop : ℕ) (picks : List ℕ → Bool) where
  filter_shifted : (count bytes : ℕ) (ss : List Placed) → filter (λ s. picks s.line) (map (shifted count bytes) ss) ≡ map (shifted count bytes) (filter (λ s. picks s.line) ss)
  filter_shifted count bytes [] = refl
  filter_shifted count bytes (s ∷ ss) = at (picks s.line) (filter_shifted count bytes ss)
    where
      at : (b : Bool) → filter (λ s. picks s.line) (map (shifted count bytes) ss) ≡ map (shifted count bytes) (filter (λ s. picks s.line) ss) →
          cond b (shifted count bytes s ∷ filter (λ s. picks s.line) (map (shifted count bytes) ss)) (filter (λ s. picks s.line) (map (shifted count bytes) ss))
          ≡ map (shifted count bytes) (cond b (s ∷ filter (λ s. picks s.line) ss) (filter (λ s. picks s.line) ss))
      at true rest = ap (λ r. shifted count bytes s ∷ r) rest
      at false rest = rest

  pub selected_parts : (text front back : List ℕ) → text ≡ front ++ back → IsWhole stop front →
      selected stop picks text ≡ selected stop picks front ++ map (shifted (length (lines stop front)) (length front)) (selected stop picks back)
  selected_parts text front back is w =
      let count = length (lines stop front) in
      let bytes = length front in
      ap (selected stop picks) is
      ∙ ap (λ ls. filter (λ s. picks s.line) (placed 1 0 ls)) (lines_append stop front back w)
      ∙ ap (filter (λ s. picks s.line))
      (placed_append 1 0 (lines stop front) (lines stop back)
      ∙ ap (λ rest. placed 1 0 (lines stop front) ++ rest)
      (ap₂ (λ i j. placed i j (lines stop back)) (omega arith) (omega (arith, whole_size stop front w)) ∙ placed_shifted count bytes 1 0 (lines stop back)))
      ∙ filter-append (λ s. picks s.line) (placed 1 0 (lines stop front)) (map (shifted count bytes) (placed 1 0 (lines stop back)))
      ∙ ap (λ rest. selected stop picks front ++ rest) (filter_shifted count bytes (placed 1 0 (lines stop back)))
