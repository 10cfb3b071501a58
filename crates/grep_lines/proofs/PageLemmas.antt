-- Only proofs use this file.
-- Whole lines at the beginning of a page.
use Rattle.std.proofs.Common.{ℕ, zero, suc, ◌≡◌, ◌<◌, ◌≤◌, ◌+◌, ◌-◌, ◌∙◌, ◌++◌, ◌∷◌, [], ◌==◌, Bool, false, true, List, Option, Some, None, IfSome, ap, arith, append_assoc, cond, refl, sym, subst, length, take, drop, get_or, length-append, length-take-le}
use Rattle.std.specs.List.{filter, slice_range}
use Rattle.std.specs.Io.BufRead.{take_through, drop_through}
use Rattle.std.specs.Io.KnownBytes.{Consumes}
use Rattle.std.proofs.Math.ListN.{get_or-append}
use Rattle.std.proofs.Math.Seq.{drop-append_seam, get_or-append_seam, take-append_seam}
use Rattle.std.proofs.lemmas.Bool.{eqb-false}
use Rattle.std.proofs.lemmas.List.{get_or-append-add, take-append-drop}
use Rattle.std.proofs.lemmas.Option.{slice_get-get_or}
use Rattle.grep_lines.specs.Lines.{AreLinesOf, before_first, lines}
use Rattle.grep_lines.specs.Pages.{AreLinesBefore, IsWhole, ends_line}
use Rattle.grep_lines.specs.Selected.{AreSkipped}
use Rattle.grep_lines.proofs.LineLemmas.{Parts, none, whole, cut, parts}

-- What goes on behind a whole text's first line.
pub record Behind (stop : ℕ) (xs line rest : List ℕ) : Type 0 where
  pub split : xs ≡ line ++ stop ∷ rest
  pub first : lines stop xs ≡ line ∷ lines stop rest
  pub ended : IsWhole stop rest

module _ (stop : ℕ) where
  pub whole_tail : (x : ℕ) (xs : List ℕ) → IsWhole stop (x ∷ xs) → IsWhole stop xs
  whole_tail x xs w k e = w (suc k) (omega (arith, e))

  some_before : (x : ℕ) (ls : List (List ℕ)) → 0 < length (before_first x ls)
  some_before x [] = omega arith
  some_before x (l ∷ ls) = omega arith

  pub some_lines : (x : ℕ) (xs : List ℕ) → 0 < length (lines stop (x ∷ xs))
  some_lines x xs = at (x == stop)
    where
      at : (b : Bool) → 0 < length (cond b ([] ∷ lines stop xs) (before_first x (lines stop xs)))
      at true = omega arith
      at false = some_before x (lines stop xs)

  before_append : (x : ℕ) (ls ms : List (List ℕ)) → 0 < length ls → before_first x (ls ++ ms) ≡ before_first x ls ++ ms
  before_append x [] ms some = absurd (omega (arith, some))
  before_append x (l ∷ ls) ms some = refl

  before_length : (x : ℕ) (ls : List (List ℕ)) → 0 < length ls → length (before_first x ls) ≡ length ls
  before_length x [] some = absurd (omega (arith, some))
  before_length x (l ∷ ls) some = refl

  -- a whole text that begins with another byte goes on
  pub some_left : (x : ℕ) (xs : List ℕ) → (x == stop) ≡ false → IsWhole stop (x ∷ xs) → 0 < length (lines stop xs)
  some_left x [] e w = absurd (eqb-false x stop e (w 0 refl))
  some_left x (y ∷ xs) e w = some_lines y xs

  -- whole lines are lines of their own
  module _ (x : ℕ) (xs : List ℕ) (w : IsWhole stop (x ∷ xs)) where
    append_step : (ys : List ℕ) → lines stop (xs ++ ys) ≡ lines stop xs ++ lines stop ys → (b : Bool) → (x == stop) ≡ b → lines stop (x ∷ xs ++ ys) ≡ lines stop (x ∷ xs) ++ lines stop ys
    append_step ys rest true e =
        ap (λ c. cond c ([] ∷ lines stop (xs ++ ys)) (before_first x (lines stop (xs ++ ys)))) e ∙ ap (λ ls. [] ∷ ls) rest
        ∙ ap (λ c. cond c ([] ∷ lines stop xs) (before_first x (lines stop xs)) ++ lines stop ys) (sym e)
    append_step ys rest false e =
        ap (λ c. cond c ([] ∷ lines stop (xs ++ ys)) (before_first x (lines stop (xs ++ ys)))) e ∙ ap (before_first x) rest
        ∙ before_append x (lines stop xs) (lines stop ys) (some_left x xs e w)
        ∙ ap (λ c. cond c ([] ∷ lines stop xs) (before_first x (lines stop xs)) ++ lines stop ys) (sym e)

    count_step : length (filter (ends_line stop) xs) ≡ length (lines stop xs) → (b : Bool) → (x == stop) ≡ b → length (filter (ends_line stop) (x ∷ xs)) ≡ length (lines stop (x ∷ xs))
    count_step rest true e =
        ap (λ c. length (cond c (x ∷ filter (ends_line stop) xs) (filter (ends_line stop) xs))) e ∙ ap suc rest
        ∙ ap (λ c. length (cond c ([] ∷ lines stop xs) (before_first x (lines stop xs)))) (sym e)
    count_step rest false e =
        ap (λ c. length (cond c (x ∷ filter (ends_line stop) xs) (filter (ends_line stop) xs))) e ∙ rest
        ∙ sym (before_length x (lines stop xs) (some_left x xs e w))
        ∙ ap (λ c. length (cond c ([] ∷ lines stop xs) (before_first x (lines stop xs)))) (sym e)

  pub lines_append : (xs ys : List ℕ) → IsWhole stop xs → lines stop (xs ++ ys) ≡ lines stop xs ++ lines stop ys
  lines_append [] ys w = refl
  lines_append (x ∷ xs) ys w = append_step x xs w ys (lines_append xs ys (whole_tail x xs w)) (x == stop) refl

  -- there are as many as terminators
  pub count_lines : (xs : List ℕ) → IsWhole stop xs → length (filter (ends_line stop) xs) ≡ length (lines stop xs)
  count_lines [] w = refl
  count_lines (x ∷ xs) w = count_step x xs w (count_lines xs (whole_tail x xs w)) (x == stop) refl

  through_step : (x : ℕ) (xs : List ℕ) → take_through stop xs ++ drop_through stop xs ≡ xs → (b : Bool) →
      cond b (x ∷ []) (x ∷ take_through stop xs) ++ cond b xs (drop_through stop xs) ≡ x ∷ xs
  through_step x xs rest true = refl
  through_step x xs rest false = ap (λ ys. x ∷ ys) rest

  through_all : (xs : List ℕ) → take_through stop xs ++ drop_through stop xs ≡ xs
  through_all [] = refl
  through_all (x ∷ xs) = through_step x xs (through_all xs) (x == stop)

  pub behind : (x : ℕ) (xs : List ℕ) → IsWhole stop (x ∷ xs) → Parts stop (x ∷ xs) → (line : List ℕ) × (rest : List ℕ) × Behind stop (x ∷ xs) line rest
  behind x xs w (none empty) = absurd (omega (arith, ap length empty))
  behind x xs w (whole l t d free) = absurd (free (length xs) (omega arith) (w (length xs) (omega arith)))
  behind x xs w (cut line t l) =
      let all = x ∷ xs in
      let rest = drop_through stop all in
      let split : all ≡ line ++ stop ∷ rest = sym (through_all all) ∙ ap (λ ys. ys ++ rest) t ∙ append_assoc line (stop ∷ []) rest in
      let sized : length all ≡ length line + suc (length rest) = ap length split ∙ length-append line (stop ∷ rest) in
      let ended : IsWhole stop rest = λ k last. sym (get_or-append-add line (stop ∷ rest) (suc k) 0) ∙ ap (λ ys. get_or ys (length line + suc k) 0) (sym split)
      ∙ w (length line + suc k) (omega (arith, sized, last)) in
      (line, rest, record { split = split; first = l; ended = ended })

  pub line_stands : (page front line rest : List ℕ) → IsWhole stop front → page ≡ front ++ (line ++ stop ∷ rest) → AreLinesOf stop page (length front) (length front + length line)
  line_stands page front line rest w e =
      let sized : length page ≡ length front + (length line + suc (length rest)) =
      ap length e ∙ length-append front (line ++ stop ∷ rest) ∙ ap (λ n. length front + n) (length-append line (stop ∷ rest)) in
      record {
        before = λ k last.
            slice_get-get_or page k 0 (omega (arith, last, sized))
            ∙ ap Some (ap (λ p. get_or p k 0) e ∙ get_or-append front (line ++ stop ∷ rest) 0 k (omega (arith, last)) ∙ w k last);
        behind =
            slice_get-get_or page (length front + length line) 0 (omega (arith, sized))
            ∙ ap Some (ap (λ p. get_or p (length front + length line) 0) e ∙ get_or-append-add front (line ++ stop ∷ rest) (length line) 0 ∙ get_or-append_seam line stop rest 0);
      }

  -- what ends with a terminator is whole
  pub whole_line : (front line : List ℕ) → IsWhole stop (front ++ (line ++ stop ∷ []))
  whole_line front line k last =
      let sized : length (front ++ (line ++ stop ∷ [])) ≡ length front + (length line + 1) =
      length-append front (line ++ stop ∷ []) ∙ ap (λ n. length front + n) (length-append line (stop ∷ [])) in
      let place : k ≡ length front + length line = omega (arith, last, sized) in
      ap (λ n. get_or (front ++ (line ++ stop ∷ [])) n 0) place ∙ get_or-append-add front (line ++ stop ∷ []) (length line) 0 ∙ get_or-append_seam line stop [] 0

  module _ (picks : List ℕ → Bool) (page : List ℕ) (place : ℕ)
      (unselected : (start end : ℕ) → start ≤ end → end < place → AreLinesOf stop page start end → picks (slice_range page start end) ≡ false) where
    line_unselected : (front line rest : List ℕ) → IsWhole stop front → page ≡ front ++ (line ++ stop ∷ rest) → length front + length line < place → picks line ≡ false
    line_unselected front line rest w e near =
        let at = length front in
        let sized : at + length line - at ≡ length line = omega arith in
        let piece : slice_range page at (at + length line) ≡ line =
        ap (λ p. slice_range p at (at + length line)) e ∙ ap (λ n. take n (drop at (front ++ (line ++ stop ∷ rest)))) sized
        ∙ ap (take (length line)) (drop-append_seam front (line ++ stop ∷ rest)) ∙ take-append_seam line (stop ∷ rest) in
        subst (λ l. picks l ≡ false) piece (unselected at (at + length line) (omega arith) near (line_stands page front line rest w e))

    -- no line of whole lines that end before the place is selected
    pub none_selected : (n : ℕ) (front xs tail : List ℕ) → length xs ≤ n → IsWhole stop front → IsWhole stop xs → page ≡ front ++ (xs ++ tail) → length front + length xs ≤ place →
        filter picks (lines stop xs) ≡ []
    none_selected n front [] tail short v w e fits = refl
    none_selected zero front (x ∷ xs) tail short v w e fits = absurd (omega (arith, short))
    none_selected (suc n) front (x ∷ xs) tail short v w e fits =
        let found = behind x xs w (parts stop (x ∷ xs)) in
        let line = found.0 in
        let rest = found.1 in
        let is = found.2 in
        let sized : length (x ∷ xs) ≡ length line + suc (length rest) = ap length is.split ∙ length-append line (stop ∷ rest) in
        let joined : page ≡ front ++ (line ++ stop ∷ (rest ++ tail)) =
        e ∙ ap (λ ys. front ++ (ys ++ tail)) is.split ∙ ap (λ ys. front ++ ys) (append_assoc line (stop ∷ rest) tail) in
        let other = line_unselected front line (rest ++ tail) v joined (omega (arith, sized, fits)) in
        let later : page ≡ (front ++ (line ++ stop ∷ [])) ++ (rest ++ tail) =
        joined ∙ ap (λ ys. front ++ ys) (sym (append_assoc line (stop ∷ []) (rest ++ tail))) ∙ sym (append_assoc front (line ++ stop ∷ []) (rest ++ tail)) in
        let far : length (front ++ (line ++ stop ∷ [])) ≡ length front + (length line + 1) =
        length-append front (line ++ stop ∷ []) ∙ ap (λ k. length front + k) (length-append line (stop ∷ [])) in
        ap (filter picks) is.first ∙ ap (λ b. cond b (line ∷ filter picks (lines stop rest)) (filter picks (lines stop rest))) other
        ∙ none_selected n (front ++ (line ++ stop ∷ [])) rest tail (omega (arith, sized, short)) (whole_line front line) is.ended later (omega (arith, sized, far, fits))

    module _ (end count : ℕ) (are : AreLinesBefore stop page place end count) (within : end ≤ length page) where
      pub skip_page : (old new : Option (List ℕ)) → Consumes old new (take end page) → IfSome old (λ text. AreSkipped stop picks text count new)
      skip_page None new e = tt
      skip_page (Some text) None e = absurd e
      skip_page (Some text) (Some rest) e =
          let shown = take end page in
          record {
            rest = rest;
            known = refl;
            skipped = lines stop shown;
            parts = ap (lines stop) e ∙ lines_append shown rest are.whole;
            counted = are.counted;
            unselected =
                none_selected (length shown) [] shown (drop end page) (omega arith) (λ k e. absurd (omega (arith, e))) are.whole (sym (take-append-drop end page))
                (omega (arith, length-take-le end page within, are.within));
          }
