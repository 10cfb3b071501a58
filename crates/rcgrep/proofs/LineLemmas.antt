-- Only proofs use this file.
-- An assertion says the same of a line by itself and of the line between newlines.
use Rattle.std.proofs.Common.{ℕ, zero, suc, ◌≡◌, ◌<◌, ◌≤◌, ◌⊎◌, ◌+◌, ◌-◌, ◌∙◌, ◌++◌, ◌∷◌, [], ◌&&◌, ◌||◌, Bool, false, List, Option, Some, None, IsTrue, if◌then◌else◌, ap, ap₂, arith, append_assoc, inl, inr, refl, sym, subst, length, take, drop, slice_index, length-append, length-drop, length-take-le, nat_lt, take-take, true≢false}
use Rattle.std.specs.List.{slice_range}
use Rattle.std.specs.Option.{option_map}
use Rattle.std.specs.Char.{IsScalar, encode_utf8}
use Rattle.std.proofs.Math.Seq.{drop-append_seam, drop-append-add, take-add}
use Rattle.std.proofs.lemmas.Bool.{and_left, and_right, cases_lt}
use Rattle.std.proofs.lemmas.List.{append-nil, drop_more, drop-append-le, drop-drop, drop-take, get_or-append-add, take-append-drop, take_more, take_rest}
use Rattle.std.proofs.lemmas.Option.{get_or_from_slice_get, none-some, same_Some, slice_get_within}
use lib.Utf8.{low_scalar}
use Rattle.rc_pattern.specs.declared.hir.Look.{Look}
use Rattle.rc_pattern.specs.declared.hir.Look.TheVariants.{Start, End, StartLF, EndLF, StartCRLF, EndCRLF, WordAscii, WordAsciiNegate, WordUnicode, WordUnicodeNegate, WordStartAscii, WordEndAscii, WordStartUnicode, WordEndUnicode, WordStartHalfAscii, WordEndHalfAscii, WordStartHalfUnicode, WordEndHalfUnicode}
use Rattle.rc_program.specs.Scalars.{continues, of_two, of_three, of_four, scalar_at, scalar_before}
use Rattle.rc_program.specs.Looks.{Side, nothing, stands, side_before, side_after, has_byte, holds_between, is_ascii_word, is_broken, is_edge, is_unicode_word}
use Rattle.rc_program.proofs.SideLemmas.{scalar_law, side_before_some}
use Rattle.rc_program.proofs.WordLemmas.{is_word_scalar-ascii}
use Rattle.grep_lines.specs.Lines.{AreLinesOf}
use Rattle.rcgrep.specs.Local.{is_line_look}

-- ---- no scalar goes on over a newline

untaken : (b : Bool) (o : Option (ℕ × ℕ)) → b ≡ false → (if b then o else None) ≡ None
untaken b o e = rw e refl

abbrev by_first : ℕ → (two three four : Option (ℕ × ℕ)) → Option (ℕ × ℕ)
by_first a two three four =
    if nat_lt a 128 then Some (a, 1)
    else if nat_lt a 192 then None
    else if nat_lt a 224 then two
    else if nat_lt a 240 then three
    else if nat_lt a 248 then four
    else None

three_stops : (a b : ℕ) (rest : List ℕ) → of_three a (b ∷ 10 ∷ rest) ≡ None
three_stops a b rest = untaken (continues b && continues 10) _ (and_right (continues b) (continues 10) refl)

four_stops_first : (a : ℕ) (rest : List ℕ) → of_four a (10 ∷ rest) ≡ None
four_stops_first a [] = refl
four_stops_first a (b ∷ []) = refl
four_stops_first a (b ∷ c ∷ rest) = refl

four_stops_second : (a b : ℕ) (rest : List ℕ) → of_four a (b ∷ 10 ∷ rest) ≡ None
four_stops_second a b [] = refl
four_stops_second a b (c ∷ rest) = untaken (continues b && continues 10 && continues c) _ (and_left (continues b && continues 10) (continues c) (and_right (continues b) (continues 10) refl))

four_stops_third : (a b c : ℕ) (rest : List ℕ) → of_four a (b ∷ c ∷ 10 ∷ rest) ≡ None
four_stops_third a b c rest =
    untaken (continues b && continues c && continues 10) _ (and_right (continues b && continues c) (continues 10) refl)

three_stops_first : (a : ℕ) (rest : List ℕ) → of_three a (10 ∷ rest) ≡ None
three_stops_first a [] = refl
three_stops_first a (b ∷ rest) = refl

scalar_stops : (xs rest : List ℕ) → 0 < length xs → scalar_at (xs ++ 10 ∷ rest) ≡ scalar_at xs
scalar_stops [] rest some = absurd (omega (arith, some))
scalar_stops (a ∷ []) rest some = ap₂ (by_first a None) (three_stops_first (a - 224) rest) (four_stops_first (a - 240) rest)
scalar_stops (a ∷ b ∷ []) rest some =
    ap₂ (by_first a (of_two (a - 192) (b ∷ []))) (three_stops (a - 224) b rest) (four_stops_second (a - 240) b rest)
scalar_stops (a ∷ b ∷ c ∷ []) rest some =
    ap (by_first a (of_two (a - 192) (b ∷ c ∷ [])) (of_three (a - 224) (b ∷ c ∷ []))) (four_stops_third (a - 240) b c rest)
scalar_stops (a ∷ b ∷ c ∷ d ∷ xs) rest some = refl

-- no scalar's bytes have a newline before their last
no_newline_within : (c : ℕ) (xs ys : List ℕ) → IsScalar c → encode_utf8 c ≡ xs ++ 10 ∷ ys → 0 < length ys → ⊥
no_newline_within c [] ys ok e some =
    let told = (scalar_law.begins (encode_utf8 c) c (length (encode_utf8 c))).1 (ok, refl, ([], sym (append-nil (encode_utf8 c)))) in
    let one = same_Some (10, 1) (c, length (encode_utf8 c)) (sym (ap scalar_at e) ∙ told) in
    let size : 1 ≡ length (encode_utf8 c) = ap (λ (s : ℕ × ℕ). s.1) one in
    omega (arith, size, ap length e, some)
no_newline_within c (x ∷ xs) ys ok e some =
    let told = (scalar_law.begins (encode_utf8 c) c (length (encode_utf8 c))).1 (ok, refl, ([], sym (append-nil (encode_utf8 c)))) in
    let front = (scalar_law.begins (x ∷ xs) c (length (encode_utf8 c))).0 (sym (scalar_stops (x ∷ xs) ys (omega arith)) ∙ sym (ap scalar_at e) ∙ told) in
    omega (arith, ap length front.2.1, length-append (encode_utf8 c) front.2.0, ap length e, length-append (x ∷ xs) (10 ∷ ys))

-- the scalar that ends some bytes is the one that ends them behind a newline
module _ (front xs : List ℕ) (some : 0 < length xs) where
  abbrev behind_newline : List ℕ
  behind_newline = front ++ 10 ∷ xs

  ends_behind : (c : ℕ) → scalar_before xs ≡ Some c → scalar_before behind_newline ≡ Some c
  ends_behind c e =
      let told = (scalar_law.ends xs c).0 e in
      (scalar_law.ends behind_newline c).1
      (told.0, (front ++ 10 ∷ told.1.0, ap (λ ys. front ++ 10 ∷ ys) told.1.1 ∙ sym (append_assoc front (10 ∷ told.1.0) (encode_utf8 c))))

  ends_within : (c : ℕ) (before : List ℕ) → IsScalar c → behind_newline ≡ before ++ encode_utf8 c → (length front < length before) ⊎ (length before ≤ length front) →
      scalar_before xs ≡ Some c
  ends_within c before ok e (inl more) =
      let rest : xs ≡ drop (length front + 1) before ++ encode_utf8 c =
      sym (drop-append-add front (10 ∷ xs) 1) ∙ ap (drop (length front + 1)) e ∙ drop-append-le (length front + 1) before (encode_utf8 c) (omega (arith, more)) in
      (scalar_law.ends xs c).1 (ok, (drop (length front + 1) before, rest))
  ends_within c before ok e (inr less) =
      let rest : encode_utf8 c ≡ drop (length before) front ++ 10 ∷ xs =
      sym (drop-append_seam before (encode_utf8 c)) ∙ sym (ap (drop (length before)) e) ∙ drop-append-le (length before) front (10 ∷ xs) less in
      absurd (no_newline_within c (drop (length before) front) xs ok rest some)

  same_end : (o p : Option ℕ) → scalar_before behind_newline ≡ o → scalar_before xs ≡ p → o ≡ p
  same_end None None e f = refl
  same_end o (Some c) e f = sym e ∙ ends_behind c f
  same_end (Some c) None e f =
      let told = (scalar_law.ends behind_newline c).0 e in
      absurd (none-some c (sym f ∙ ends_within c told.1.0 told.0 told.1.1 (cases_lt (length front) (length told.1.0))))

  scalar_behind : scalar_before behind_newline ≡ scalar_before xs
  scalar_behind = same_end (scalar_before behind_newline) (scalar_before xs) refl refl

-- ---- the sides of a position

-- the same stands there; or in the line nothing does, and in the text a newline
abbrev Alike : Side → Side → Type 0
Alike line text = (line ≡ text) ⊎ ((line ≡ nothing) × (text ≡ stands 10 (Some 10)))

after_alike : (xs rest : List ℕ) → Alike (side_after xs) (side_after (xs ++ 10 ∷ rest))
after_alike [] rest = inr (refl, refl)
after_alike (x ∷ xs) rest = inl (ap (λ o. stands x (option_map (λ (s : ℕ × ℕ). s.0) o)) (sym (scalar_stops (x ∷ xs) rest (omega arith))))

newline_last : (front : List ℕ) → side_before (front ++ 10 ∷ []) ≡ stands 10 (Some 10)
unfolding encode_utf8
newline_last front =
    let size : length (front ++ 10 ∷ []) ≡ length front + 1 = length-append front (10 ∷ []) in
    let place : length (front ++ 10 ∷ []) - 1 ≡ length front + 0 = omega (arith, size) in
    side_before_some (front ++ 10 ∷ []) (omega (arith, size))
    ∙ ap₂ stands (ap (slice_index (front ++ 10 ∷ [])) place ∙ get_or-append-add front (10 ∷ []) 0 0)
    ((scalar_law.ends (front ++ 10 ∷ []) 10).1 (low_scalar 10 (omega arith), (front, refl)))

before_alike : (front xs : List ℕ) → Alike (side_before xs) (side_before (front ++ 10 ∷ xs))
before_alike front [] = inr (refl, newline_last front)
before_alike front (x ∷ xs) =
    let all = front ++ 10 ∷ x ∷ xs in
    let size : length all ≡ length front + suc (suc (length xs)) = length-append front (10 ∷ x ∷ xs) in
    let place : length all - 1 ≡ length front + suc (length xs) = omega (arith, size) in
    inl (ap₂ stands (sym (ap (slice_index all) place ∙ get_or-append-add front (10 ∷ x ∷ xs) (suc (length xs)) 0)) (sym (scalar_behind front (x ∷ xs) (omega arith)))
    ∙ sym (side_before_some all (omega (arith, size))))

same_edge : (a b : Side) → Alike a b → (is_edge a || has_byte 10 a) ≡ (is_edge b || has_byte 10 b)
same_edge a b (inl e) = ap (λ s. is_edge s || has_byte 10 s) e
same_edge a b (inr e) = rw (e.0, e.1) refl

same_ascii : (a b : Side) → Alike a b → is_ascii_word a ≡ is_ascii_word b
same_ascii a b (inl e) = ap is_ascii_word e
same_ascii a b (inr e) = rw (e.0, e.1) refl

same_broken : (a b : Side) → Alike a b → is_broken a ≡ is_broken b
same_broken a b (inl e) = ap is_broken e
same_broken a b (inr e) = rw (e.0, e.1) refl

same_word : (a b : Side) → Alike a b → is_unicode_word a ≡ is_unicode_word b
same_word a b (inl e) = ap is_unicode_word e
same_word a b (inr e) = ap is_unicode_word e.0 ∙ sym (is_word_scalar-ascii 10 (omega arith)) ∙ sym (ap is_unicode_word e.1)

same_between : (a b c d : Side) → Alike a b → Alike c d → (l : Look) → IsTrue (is_line_look l) → holds_between 10 a c l ≡ holds_between 10 b d l
same_between a b c d f g Start is = absurd (true≢false (sym is))
same_between a b c d f g End is = absurd (true≢false (sym is))
same_between a b c d f g StartLF is = same_edge a b f
same_between a b c d f g EndLF is = same_edge c d g
same_between a b c d f g StartCRLF is = absurd (true≢false (sym is))
same_between a b c d f g EndCRLF is = absurd (true≢false (sym is))
same_between a b c d f g WordAscii is = rw (same_ascii a b f, same_ascii c d g) refl
same_between a b c d f g WordAsciiNegate is = rw (same_ascii a b f, same_ascii c d g) refl
same_between a b c d f g WordUnicode is = rw (same_word a b f, same_word c d g) refl
same_between a b c d f g WordUnicodeNegate is = rw (same_word a b f, same_word c d g, same_broken a b f, same_broken c d g) refl
same_between a b c d f g WordStartAscii is = rw (same_ascii a b f, same_ascii c d g) refl
same_between a b c d f g WordEndAscii is = rw (same_ascii a b f, same_ascii c d g) refl
same_between a b c d f g WordStartUnicode is = rw (same_word a b f, same_word c d g) refl
same_between a b c d f g WordEndUnicode is = rw (same_word a b f, same_word c d g) refl
same_between a b c d f g WordStartHalfAscii is = rw (same_ascii a b f) refl
same_between a b c d f g WordEndHalfAscii is = rw (same_ascii c d g) refl
same_between a b c d f g WordStartHalfUnicode is = rw (same_word a b f, same_broken a b f) refl
same_between a b c d f g WordEndHalfUnicode is = rw (same_word c d g, same_broken c d g) refl

-- ---- a line of a text

first_part : (n : ℕ) (xs : List ℕ) → slice_range xs 0 n ≡ take n xs
first_part n xs = ap (λ k. take k xs) (omega arith)

module _ (text : List ℕ) (start end : ℕ) (order : start ≤ end) (are : AreLinesOf 10 text start end) where
  abbrev line : List ℕ
  line = slice_range text start end

  ends_inside : end < length text
  ends_inside = slice_get_within text end 10 are.behind

  line_size : length line ≡ end - start
  line_size = length-take-le (end - start) (drop start text) (omega (arith, ends_inside, length-drop start text))

  module _ (p : ℕ) (near : start + p ≤ end) where
    -- the line's bytes from p on, and then a newline
    rest_is : drop (start + p) text ≡ drop p line ++ 10 ∷ drop (end + 1) text
    rest_is =
        let more = end - (start + p) in
        let whole : end - start ≡ p + more = omega (arith, near, order) in
        let there : (start + p) + more ≡ end = omega (arith, near) in
        sym (take-append-drop more (drop (start + p) text))
        ∙ ap₂ ◌++◌ (ap (take more) (sym (drop-drop p start text)) ∙ sym (drop-take p more (drop start text)) ∙ ap (λ n. drop p (take n (drop start text))) (sym whole))
        (drop-drop more (start + p) text ∙ ap (λ n. drop n text) there ∙ drop_more text end 0 ends_inside
        ∙ ap (λ b. b ∷ drop (end + 1) text) (get_or_from_slice_get text end 10 0 are.behind))

    same_after : Alike (side_after (slice_range line p (length line))) (side_after (slice_range text (start + p) (length text)))
    same_after =
        subst (λ ys. Alike (side_after (slice_range line p (length line))) (side_after ys)) (sym (take_rest text (start + p) ∙ rest_is))
        (subst (λ xs. Alike (side_after xs) (side_after (drop p line ++ 10 ∷ drop (end + 1) text))) (sym (take_rest line p))
        (after_alike (drop p line) (drop (end + 1) text)))

    front_is : slice_range line 0 p ≡ take p (drop start text)
    front_is = first_part p line ∙ take-take p (end - start) (drop start text) (omega (arith, near))

    same_before_at : (n : ℕ) → n ≡ start → Alike (side_before (slice_range line 0 p)) (side_before (slice_range text 0 (start + p)))
    same_before_at zero e = inl (ap side_before (front_is ∙ ap (λ k. take p (drop k text)) (sym e) ∙ ap (λ k. take k text) (omega (arith, e)) ∙ sym (first_part (start + p) text)))
    same_before_at (suc k) e =
        let stood : take start text ≡ take k text ++ 10 ∷ [] =
        ap (λ n. take n text) (sym e ∙ omega arith) ∙ take_more text k 0 (omega (arith, e, order, ends_inside))
        ∙ ap (λ b. take k text ++ b ∷ []) (get_or_from_slice_get text k 10 0 (are.before k (omega (arith, e)))) in
        let split : slice_range text 0 (start + p) ≡ take k text ++ 10 ∷ take p (drop start text) =
        first_part (start + p) text ∙ take-add start p text ∙ ap (λ xs. xs ++ take p (drop start text)) stood ∙ append_assoc (take k text) (10 ∷ []) (take p (drop start text)) in
        subst (λ ys. Alike (side_before (slice_range line 0 p)) (side_before ys)) (sym split)
        (subst (λ xs. Alike (side_before xs) (side_before (take k text ++ 10 ∷ take p (drop start text)))) (sym front_is)
        (before_alike (take k text) (take p (drop start text))))

    pub same_before : Alike (side_before (slice_range line 0 p)) (side_before (slice_range text 0 (start + p)))
    same_before = same_before_at start refl

    -- the assertion holds in the line exactly where it holds in the text
    pub same_holds : (l : Look) → IsTrue (is_line_look l) →
        holds_between 10 (side_before (slice_range line 0 p)) (side_after (slice_range line p (length line))) l
        ≡ holds_between 10 (side_before (slice_range text 0 (start + p))) (side_after (slice_range text (start + p) (length text))) l
    same_holds l is = same_between _ _ _ _ same_before same_after l is
